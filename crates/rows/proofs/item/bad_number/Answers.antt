-- `rows::item::bad_number` meets its contract, kind by kind. Assumes nothing.
use native.Mathlib.Omega.{arith}
use Rattle.rows.proofs.RowLaws.{number_usual, number_least, number-none, number-single, number-other}
use Rattle.rows.proofs.item.bad_number.Goals as goal

pub returns-then-number-ne-NEGATIVE_ALIAS : goal.returns-then-number-ne-NEGATIVE_ALIAS
returns-then-number-ne-NEGATIVE_ALIAS c = number_usual _ _ c.if-kind-ge-BYTES.true c.if-number-ne-NEGATIVE_ALIAS.true

pub returns-then-kind-ge-BYTES : goal.returns-then-kind-ge-BYTES
returns-then-kind-ge-BYTES c = number_least _ _ c.if-kind-ge-BYTES.true c.if-number-ne-NEGATIVE_ALIAS.false

pub returns-then-kind-lt-FLOAT32 : goal.returns-then-kind-lt-FLOAT32
returns-then-kind-lt-FLOAT32 c = number-none _ _ c.if-kind-lt-FLOAT32.true

pub returns-then-kind-eq-FLOAT32 : goal.returns-then-kind-eq-FLOAT32
returns-then-kind-eq-FLOAT32 c = number-single _ _ c.if-kind-eq-FLOAT32.true

pub returns : goal.returns
returns c = number-other _ _ c.if-kind-lt-FLOAT32.false c.if-kind-eq-FLOAT32.false (λ e. omega (arith, c.if-kind-ge-BYTES.false))
