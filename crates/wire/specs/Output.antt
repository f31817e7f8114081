-- What a call that writes bytes answers, and the buffer after it.
use Rattle.std.specs.Prelude.{ℕ, ◌≡◌, List, ◌++◌, length, drop}

-- Bytes `bs` were written at the start of a buffer: how many, and the buffer after it.
abbrev pub Puts : List ℕ → ℕ → List ℕ → List ℕ → Type 0
Puts bs r entry exit = (r ≡ length bs) × (exit ≡ bs ++ drop (length bs) entry)
