-- The number that the payload of an integer or a container stands for.
use Rattle.std.specs.Prelude.{ℕ, ◌-◌, min, eqb}
use Rattle.format.specs.Choice.{pick}
use Rattle.format.specs.Code as Code
use Rattle.format.specs.Header.{negative_alias}

-- The payload itself, but that the negative alias stands for the least integer.
unfoldable pub number_of : ℕ → ℕ → ℕ
number_of code p = pick (eqb code Code.negative) (min p (negative_alias - 1)) p
