-- What a call that writes bytes at an offset answers, and the buffer after it.
use Rattle.std.specs.Prelude.{ℕ, ◌+◌, ◌≡◌, List, ◌++◌, length, take, drop}

-- the offset after the bytes
abbrev pub PutsAt : ℕ → List ℕ → ℕ → List ℕ → List ℕ → Type 0
PutsAt at bs r entry exit = (r ≡ at + length bs) × (exit ≡ take at entry ++ (bs ++ drop (at + length bs) entry))
