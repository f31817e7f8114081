-- `envelope::opening::bundle_len` meets its contract, rule by rule. Assumes nothing.
use native.Mathlib.Omega.{arith}
use mathlib.Core.Path.{◌∙◌}
use Rattle.envelope.proofs.OpeningLaws.{counted-length, counts-nothing, fails, no_length, opened, other-version, too_few, too_long}
use Rattle.envelope.proofs.opening.bundle_len.Goals as goal

pub returns-then-bytes-lt-LENGTH_SIZE : goal.returns-then-bytes-lt-LENGTH_SIZE
returns-then-bytes-lt-LENGTH_SIZE c = c.fail.ensures ∙ fails _ _ (no_length _ (omega arith))

pub returns-then-n-eq0 : goal.returns-then-n-eq0
returns-then-n-eq0 c = c.fail-then-n-eq0.ensures ∙ fails _ _ (counts-nothing _ (omega arith) (omega arith))

pub returns-then-n-gt-MAX_BYTES : goal.returns-then-n-gt-MAX_BYTES
returns-then-n-gt-MAX_BYTES c = c.fail-then-n-gt-MAX_BYTES.ensures ∙ fails _ _ (too_long _ (omega arith) (omega arith) (omega arith))

pub returns-then-bytes-n : goal.returns-then-bytes-n
returns-then-bytes-n c = c.fail-then-bytes-n.ensures ∙ fails _ _ (too_few _ (omega arith) (omega arith) (omega arith) (omega arith))

pub returns-then-bytes-ne-VERSION : goal.returns-then-bytes-ne-VERSION
returns-then-bytes-ne-VERSION c = c.fail-then-bytes-ne-VERSION.ensures
    ∙ fails _ _ (other-version _ (omega arith) (omega arith) (omega arith) (omega arith) (λ e. absurd (omega (arith, e))))

pub returns : goal.returns
returns c =
    rw c.length_field-n.ensures
    (counted-length _ _ (omega arith) (opened _ (omega arith) (omega arith) (omega arith) (omega arith) (omega arith)))
