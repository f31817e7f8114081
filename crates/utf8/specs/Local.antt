-- UTF-8 by a local rule: whether a byte may stand where it does goes by the three bytes before it alone.
use Rattle.std.specs.Prelude.{ℕ, ◌+◌, ◌*◌, ◌≤◌, ◌<◌, ◌≡◌, Bool, true, false, not, ◌&&◌, ◌||◌, List, length, leb, ltb, get_or, drop, is_none, Option, Some, None}
use Rattle.std.specs.Bool.{beq}
use Rattle.format.specs.Choice.{pick}
use Rattle.format.specs.Utf8.{leads, stop_after}

-- Bytes from an offset on are good where k continuation bytes are due first.
abbrev pub good_after : ℕ → ℕ → List ℕ → Bool
good_after k i bs = is_none (stop_after k i bs)

-- How many continuation bytes a byte leads.
abbrev pub lead_of : ℕ → Option ℕ
lead_of b = pick (ltb (leads b) 4) (Some (leads b)) None

-- A window: a byte, and so many before it.
abbrev pub before : ℕ
before = 3

-- A block of 16 windows, one byte further each.
abbrev pub block_bytes : ℕ
block_bytes = 16 + before

-- A text that is looked at by its two ends, of at most 32 bytes each.
abbrev pub max_short : ℕ
max_short = 2 * 32

-- Is a continuation byte due after the bytes p3, p2, p1?
unfoldable pub due : ℕ → ℕ → ℕ → Bool
due p3 p2 p1 = leb 0xc0 p1 || leb 0xe0 p2 || leb 0xf0 p3

-- How many of them are due.
unfoldable pub due_count : ℕ → ℕ → ℕ → ℕ
due_count p3 p2 p1 = pick (leb 0xf0 p1) 3 (pick (leb 0xe0 p1 || leb 0xf0 p2) 2 (pick (due p3 p2 p1) 1 0))

-- The local rule: b, after p3, p2, p1, is a continuation byte where one is due and only there, and is no byte that UTF-8 never has.
unfoldable pub passes : ℕ → ℕ → ℕ → ℕ → Bool
passes p3 p2 p1 b = beq (due p3 p2 p1) (leb 0x80 b && leb b 0xbf) && not (leb 0xc0 b && leb b 0xc1 || leb 0xf5 b)

-- The local rule in the window of four bytes at i.
unfoldable pub passes_at : List ℕ → ℕ → Bool
passes_at s i = passes (get_or s i 0) (get_or s (i + 1) 0) (get_or s (i + 2) 0) (get_or s (i + 3) 0)

-- It holds in the windows from a up to e.
abbrev pub Passing : List ℕ → ℕ → ℕ → Type 0
Passing s a e = (i : ℕ) → a ≤ i → i < e → passes_at s i ≡ true

-- What follows the three bytes at i is good after them.
unfoldable pub good_from : List ℕ → ℕ → Bool
good_from s i = good_after (due_count (get_or s i 0) (get_or s (i + 1) 0) (get_or s (i + 2) 0)) (i + 3) (drop (i + 3) s)

-- What the windows from a up to e were found to be: all pass, or what follows a is not good.
abbrev pub Checked : List ℕ → ℕ → ℕ → Bool → Type 0
Checked s a e r = (r ≡ true → Passing s a e) × (r ≡ false → good_from s a ≡ false)

-- What the windows of a block were found to be: all pass, or one does not.
abbrev pub Judged : List ℕ → Bool → Type 0
Judged s r = (r ≡ true → (i : ℕ) → i + 3 < length s → passes_at s i ≡ true) × (r ≡ false → (i : ℕ) × (i + 3 < length s) × passes_at s i ≡ false)

-- The bytes from a up to e are ASCII.
abbrev pub Ascii : List ℕ → ℕ → ℕ → Type 0
Ascii s a e = (i : ℕ) → a ≤ i → i < e → get_or s i 0 < 0x80
