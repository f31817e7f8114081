-- `envelope::closing::close` meets its contract: the length, the version, the bundle. Assumes nothing.
use native.Mathlib.Omega.{arith}
use Rattle.envelope.proofs.ClosingLaws.{closes_long, closes_short, led, bundle-fits, wrote, closes}
use Rattle.envelope.proofs.closing.close.Goals as goal

pub returns-then-n-gt-MAX_BYTES : goal.returns-then-n-gt-MAX_BYTES
returns-then-n-gt-MAX_BYTES c = closes_long _ _ c.fail.ensures (omega arith)

pub returns-then-out-n : goal.returns-then-out-n
returns-then-out-n c = closes_short _ _ (omega arith) c.fail-then-out-n.ensures (omega arith)

pub slice_bounds-copy-count : goal.slice_bounds-copy-count
slice_bounds-copy-count c =
    let args' = c.args in
    let a = args' in
    omega (arith, (led a.bundle.now a.out.now _ c.put_number.ensures.1 (omega arith)).long)

pub slice_bounds-copy-start : goal.slice_bounds-copy-start
slice_bounds-copy-start c =
    let args' = c.args in
    let a = args' in
    omega (arith, (led a.bundle.now a.out.now _ c.put_number.ensures.1 (omega arith)).long)

pub copy-requires : goal.copy-requires
copy-requires c =
    let args' = c.args in
    let a = args' in
    bundle-fits a.bundle.now a.out.now _ c.put_number.ensures.1 (omega arith)

pub shape_of-out : goal.shape_of-out
shape_of-out c =
    let args' = c.args in
    let a = args' in
    (wrote a.bundle.now a.out.now _ c.put_number.ensures.1 (omega arith) _ _
    c.copy.ensures.0 c.copy.ensures.1).long

pub returns : goal.returns
returns c =
    let args' = c.args in
    let a = args' in
    closes a.bundle.now a.out.now _ c.put_number.ensures.1 (omega arith) _ _
    c.copy.ensures.0 c.copy.ensures.1 (omega arith)
