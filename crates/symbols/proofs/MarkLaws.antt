-- Marks: a turn of the loop over a name's bytes, the bytes after the last turn, and that a mark has 32 bits. Assumes nothing.
use mathlib.Core.Path.{◌≡◌, refl, ◌∙◌}
use mathlib.Core.Bool.{Bool, true, false}
use mathlib.Core.List.{List, [], ◌∷◌}
use Prim.Native.Nat.{ℕ, zero, suc, ◌+◌, ◌-◌, ◌*◌, ◌/◌, ◌≤◌, ◌<◌}
use native.Mathlib.Omega.{arith}
use lib.ListN.{length, take, drop, get_or, length-drop}
use lib.Seq.{take_all}
use Rattle.format.specs.Choice.{pick}
use Rattle.format.specs.Header.{big_endian}
use Rattle.format.proofs.Tests.{pick_yes, pick_no, leb_yes, leb_no}
use Rattle.symbols.specs.Mark.{marks, mixed, word_at, few_of, mark_end, mark_from, mark_of}

-- The mark of the bytes that are left, begun with h.
abbrev pub mark_on : List ℕ → ℕ → ℕ
mark_on s h = mark_from ((length s - 9) / 8) h s

pub mark_start : (s : List ℕ) → mark_of s ≡ mark_on s 0
unfolding mark_of
mark_start s = refl

pub mark_eight : (s : List ℕ) (h g v w : ℕ) → 16 < length s → v ≡ word_at s 0 → w ≡ word_at s 4 → g ≡ mixed h v w
    → mark_on s h ≡ mark_on (take (length s - 8) (drop 8 s)) g
unfolding mark_from
mark_eight s h g v w l ev ew eg =
    let more : (length s - 9) / 8 ≡ suc ((length (drop 8 s) - 9) / 8) = omega (arith, length-drop 8 s) in
    rw (take_all (length s - 8) (drop 8 s) (omega (arith, length-drop 8 s)), more, eg, ev, ew)

pub mark_rest : (s : List ℕ) (h : ℕ) → length s ≤ 16 → mark_on s h ≡ mark_end h s
unfolding mark_from
mark_rest s h l = let none : (length s - 9) / 8 ≡ 0 = omega arith in rw none

-- ---- the last bytes

pub end_eight : (h : ℕ) (s : List ℕ) → 8 ≤ length s
    → mark_end h s ≡ mixed (mixed h (word_at s 0) (word_at s 4)) (word_at s (length s - 8)) (word_at s (length s - 4))
unfolding mark_end
end_eight h s l = pick_yes _ _ (leb_yes l)

pub end_four : (h : ℕ) (s : List ℕ) → length s < 8 → 4 ≤ length s → mark_end h s ≡ mixed h (word_at s 0) (word_at s (length s - 4))
unfolding mark_end
end_four h s u l = pick_no _ _ (leb_no u) ∙ pick_yes _ _ (leb_yes l)

few-is : (x y z : ℕ) → big_endian 0 (x ∷ y ∷ z ∷ []) ≡ (x * 256 + y) * 256 + z
unfolding big_endian
few-is x y z = omega arith

end-few : (h : ℕ) (s : List ℕ) → length s < 4 → mark_end h s ≡ mixed h (few_of s) 0
unfolding mark_end
end-few h s l = pick_no _ _ (leb_no {a = 8} {b = length s} (omega arith)) ∙ pick_no _ _ (leb_no l)

pub end_three : (h v : ℕ) (s : List ℕ) → length s < 4
    → v ≡ big_endian 0 (get_or s 0 0 ∷ get_or s (length s / 2) 0 ∷ get_or s (length s - 1) 0 ∷ [])
    → mark_end h s ≡ mixed h v 0
end_three h v s l e = end-few h s l ∙ rw (e, few-is)

pub end_none : (h : ℕ) (s : List ℕ) → length s ≡ 0 → mark_end h s ≡ mixed h 0 0
end_none h [] l = end-few h [] (omega arith)
end_none h (b ∷ bs) l = absurd (omega arith)

-- ---- bounds

pub mixed-lt : (h v w : ℕ) → mixed h v w < marks
unfolding mixed
mixed-lt h v w = omega arith

picked_lt : (b : Bool) (x y : ℕ) → x < marks → y < marks → pick b x y < marks
unfolding pick
picked_lt true x y p q = p
picked_lt false x y p q = q

end_lt : (h : ℕ) (s : List ℕ) → mark_end h s < marks
unfolding mark_end
end_lt h s = picked_lt _ _ _ (mixed-lt _ _ _) (picked_lt _ _ _ (mixed-lt _ _ _) (mixed-lt _ _ _))

from_lt : (n h : ℕ) (s : List ℕ) → mark_from n h s < marks
unfolding mark_from
from_lt zero h s = end_lt h s
from_lt (suc n) h s = from_lt n (mixed h (word_at s 0) (word_at s 4)) (drop 8 s)

pub mark_lt : (s : List ℕ) → mark_of s < marks
unfolding mark_of
mark_lt s = from_lt ((length s - 9) / 8) 0 s
