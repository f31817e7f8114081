-- The mark of bytes. Any function of the bytes would do: all that is asked of it is that equal names have equal marks.
use Rattle.std.specs.Prelude.{ℕ, zero, suc, ◌+◌, ◌-◌, ◌*◌, ◌/◌, ◌%◌, ◌^◌, List, leb, length, take, drop, get_or}
use Rattle.format.specs.Choice.{pick}
use Rattle.format.specs.Header.{big_endian}

-- Marks are below this.
abbrev pub marks : ℕ
marks = 2 ^ 32

-- Two products, so that one need not wait for the other.
unfoldable pub mixed : ℕ → ℕ → ℕ → ℕ
mixed h v w = ((h + v % marks) % marks * 2654435761 + w % marks * 1540483477) % marks

-- Four bytes as a number.
abbrev pub word_at : List ℕ → ℕ → ℕ
word_at s i = big_endian 0 (take 4 (drop i s))

-- At most three bytes: the first, the middle and the last.
abbrev pub few_of : List ℕ → ℕ
few_of s = (get_or s 0 0 * 256 + get_or s (length s / 2) 0) * 256 + get_or s (length s - 1) 0

-- At most 16 bytes, by words from both ends that meet or overlap.
abbrev pub max_end : ℕ
max_end = 16

unfoldable pub mark_end : ℕ → List ℕ → ℕ
mark_end h s =
    pick (leb 8 (length s)) (mixed (mixed h (word_at s 0) (word_at s 4)) (word_at s (length s - 8)) (word_at s (length s - 4)))
    (pick (leb 4 (length s)) (mixed h (word_at s 0) (word_at s (length s - 4))) (mixed h (few_of s) 0))

-- n times eight bytes, and then the rest.
unfoldable pub mark_from : ℕ → ℕ → List ℕ → ℕ
mark_from zero h s = mark_end h s
mark_from (suc n) h s = mark_from n (mixed h (word_at s 0) (word_at s 4)) (drop 8 s)

unfoldable pub mark_of : List ℕ → ℕ
mark_of s = mark_from ((length s - 9) / 8) 0 s
