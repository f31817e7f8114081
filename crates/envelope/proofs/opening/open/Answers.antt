-- `envelope::opening::open` meets its contract: the part whose length is answered. Assumes nothing.
use native.Mathlib.Omega.{arith}
use native.Mathlib.Nat.{add-sub_cancel_left}
use mathlib.Core.Path.{ap, sym}
use Rattle.envelope.specs.Answers.{bundle_in}
use Rattle.envelope.proofs.OpeningLaws.{opens, opens_nothing}
use Rattle.envelope.proofs.opening.open.Goals as goal

pub overflow_add-result : goal.overflow_add-result
overflow_add-result c = let j = opens _ (rw c.in-Ok.is at c.bundle_len.ensures) in omega (arith, j.0)

pub slice_bounds-result-end : goal.slice_bounds-result-end
slice_bounds-result-end c = let j = opens _ (rw c.in-Ok.is at c.bundle_len.ensures) in omega (arith, j.0)

pub returns-in-Ok : goal.returns-in-Ok
unfolding bundle_in
returns-in-Ok c =
    let j = opens _ (rw c.in-Ok.is at c.bundle_len.ensures) in
    rw (add-sub_cancel_left) (sym (ap bundle_in j.1))

pub returns-in-Err : goal.returns-in-Err
returns-in-Err c = sym (opens_nothing _ (rw c.in-Err.is at c.bundle_len.ensures))
