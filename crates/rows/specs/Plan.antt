-- The plan of writing: for each row that is a name its reference, and then guesses: the entry of a name that begins at a place in the text.
use Rattle.std.specs.Prelude.{ℕ, ◌+◌, ◌%◌}
use Rattle.format.specs.Limits.{max_rows}

-- the places of the text are taken modulo this
abbrev pub modulus : ℕ
modulus = 509

abbrev pub plan_size : ℕ
plan_size = max_rows + modulus

-- where the guess for a place stands
abbrev pub guess_at : ℕ → ℕ
guess_at start = max_rows + start % modulus
