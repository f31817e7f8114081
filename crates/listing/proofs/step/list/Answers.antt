-- `listing::step::list` meets its contract, by what opening answers. Assumes nothing.
use native.Mathlib.Omega.{arith}
use Rattle.envelope.proofs.OpeningLaws.{opens}
use Rattle.listing.proofs.ListLaws.{lists_bundle, lists_error}
use Rattle.listing.proofs.step.list.Goals as goal

pub overflow_add-result : goal.overflow_add-result
overflow_add-result c =
    let j = opens _ (rw c.in-Ok.is at c.bundle_len.ensures) in omega (arith, j.0)

pub returns-in-Err : goal.returns-in-Err
returns-in-Err c =
    lists_error _ _ _ c.requires (rw c.in-Err.is at c.bundle_len.ensures) c.code.ensures c.put_envelope_error.ensures

pub returns-in-Ok : goal.returns-in-Ok
returns-in-Ok c =
    lists_bundle _ _ _ c.requires _ (rw c.in-Ok.is at c.bundle_len.ensures) c.«open».ensures c.put_bundle-printed.ensures
