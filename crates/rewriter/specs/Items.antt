-- An item of a bundle that reads, by its header and what stands after it.
use Rattle.std.specs.Prelude.{ℕ, ◌+◌, ◌≤◌, ◌≡◌, true, ◌&&◌, List, [], ◌++◌, leb, ltb, eqb, length, take, drop}
use Rattle.format.specs.Choice.{pick}
use Rattle.format.specs.declared.header.Header.{Header}
use Rattle.format.specs.Code as Code
use Rattle.format.specs.Limits.{fixed_sizes}
use Rattle.format.specs.Header.{header}
use Rattle.format.specs.Reading.{form_of, is_content}
use Rattle.format.specs.Canonical.{full}
use Rattle.wire.specs.Numbers.{number_of}
use Rattle.encoder.specs.Plan.{referring}

-- A header in its shortest form and the content, which begins at next.
unfoldable pub sized : List ℕ → ℕ → Header → List ℕ
sized s next h = header h.code h.payload ++ take h.payload (drop next s)

-- An item as it is written, where refer is how a name is written.
unfoldable pub rewritten : List ℕ → ℕ → ℕ → Header → List ℕ
rewritten s refer next h =
    pick (leb Code.positive h.code && leb h.code Code.container) (header h.code (number_of h.code h.payload))
    (pick (leb Code.reference h.code) (header Code.reference refer)
    (pick (eqb h.code Code.binary && ltb h.sz fixed_sizes) (full (record { kind = h.sz; number = h.payload; content = [] }))
    (pick (leb Code.symbol h.code) (referring refer (sized s next h)) (sized s next h))))

-- The bytes of content after a header.
abbrev pub content_length : Header → ℕ
content_length h = pick (is_content (form_of h)) h.payload 0

-- The content that a header announces is there.
pub record Whole (s : List ℕ) (next : ℕ) (h : Header) : Type 0 where
  pub within : is_content (form_of h) ≡ true → next + h.payload ≤ length s
