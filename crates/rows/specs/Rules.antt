-- Rule 9 for a row with no content.
use Rattle.std.specs.Prelude.{ℕ, ◌^◌, Bool, ◌&&◌, ◌||◌, eqb, ltb, leb}
use Rattle.format.specs.Kind as Kind
use Rattle.format.specs.Header.{negative_alias}

-- a number that its kind may not have
unfoldable pub bad_number : ℕ → ℕ → Bool
bad_number k n = ltb k Kind.float32 && ltb 0 n || eqb k Kind.float32 && leb (2 ^ 32) n || eqb k Kind.negative && eqb n negative_alias
