-- The window over an input: where it lies, and what reading leaves of it. What the bytes are that are read no contract can say.
use Rattle.std.specs.Prelude.{◌≡◌, ℕ, ◌+◌, ◌-◌, ◌≤◌, true, List, length, take, drop}
use Rattle.format.specs.Envelope.{max_envelope}
use Rattle.stream.specs.declared.input.Window.{Window}

-- What a read has space for beside the longest envelope.
abbrev pub ahead : ℕ
ahead = 65536

-- How long an input's buffer is: `Stream::CAPACITY`.
abbrev pub input_capacity : ℕ
input_capacity = ahead + max_envelope

-- It lies in a buffer of so many bytes.
abbrev pub Within : Window → ℕ → Type 0
Within w capacity = (w.start ≤ w.end) × (w.end ≤ capacity)

-- How many bytes are not used yet,
abbrev pub unused : Window → ℕ
unused w = w.end - w.start

-- and which.
abbrev pub unread : Window → List ℕ → List ℕ
unread w bs = take (unused w) (drop w.start bs)

-- Of a window over a buffer that held `old`: it becomes `r`, over `new`. What was not used comes first; where the
-- input has ended, nothing more came.
pub record Pulls (w : Window) (old : List ℕ) (r : Window) (new : List ℕ) : Type 0 where
  pub within : Within r (length new)
  pub kept : take (unused w) (unread r new) ≡ unread w old
  pub nothing : r.ended ≡ true → unused r ≡ unused w
