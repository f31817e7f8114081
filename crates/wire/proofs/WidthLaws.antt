-- The width of a payload by its leading zeros, and the length of a header by the width. Assumes nothing.
use mathlib.Core.Path.{◌≡◌, sym}
use mathlib.Core.Bool.{Bool, not}
use Prim.Native.Nat.{ℕ, ◌+◌, ◌-◌, ◌*◌, ◌/◌, ◌^◌, ◌≤◌, ◌<◌}
use native.Mathlib.Nat.{lt_of_le_of_lt, lt_of_lt_of_le, not-le_of_lt}
use native.Mathlib.Omega.{arith}
use lib.Bits.{bit_or, and_le_l, and_le_r, or_add_and, or_lt}
use lib.Count.{count_leading_zeros, leading_top}
use lib.Dec.{ltb, lit<}
use lib.ListN.{length}
use lib.Pow.{pow_mono}
use mir.Val.{bool_byte}
use Rattle.format.specs.Header.{width, width_from, shift, header}
use Rattle.format.specs.Limits.{max_inline}
use Rattle.format.proofs.Headers.{length-short, length-long}
use Rattle.format.proofs.Numbers.{width_holds}
use Rattle.format.proofs.Tests.{order, ltb_yes, ltb_no, pick_yes}
use Rattle.wire.proofs.Powers.{pow_256}

-- ---- by leading zeros

-- With its last bit set a number is no less, and not 0.
or_one_le : (p : ℕ) → p ≤ bit_or p 1
or_one_le p = omega (arith, or_add_and p 1, and_le_r p 1)

or_one_pos : (p : ℕ) → 0 < bit_or p 1
or_one_pos p = omega (arith, or_add_and p 1, and_le_l p 1)

pow_reflects : (i j : ℕ) → 2 ^ i < 2 ^ j → i < j
pow_reflects i j l = order j i (λ h. absurd (not-le_of_lt l (pow_mono h))) (λ h. h)

-- Let 2 ^ j be the highest set bit, which is in byte k from the last: k bytes hold p, so the width is no more; and the
-- bytes that hold p hold that bit, so it is no less.
pub width_by_zeros : (p : ℕ) → p < 2 ^ 64 → (64 - count_leading_zeros 64 (bit_or p 1) + 7) / 8 ≡ width p
width_by_zeros p fits =
    let w = width_holds p fits in
    let (j, bits, above, below) = leading_top 64 (bit_or p 1) (or_one_pos p) (or_lt 64 p 1 fits (lit< tt)) in
    let k : ℕ = (64 - count_leading_zeros 64 (bit_or p 1) + 7) / 8 in
    let enough : p < 2 ^ (8 * k) = lt_of_le_of_lt (or_one_le p) (lt_of_lt_of_le below (pow_mono (omega arith))) in
    let fewest : width p ≤ k = w.fewest k (omega arith) (rw (pow_256 k) enough) in
    let held : bit_or p 1 < 2 ^ (8 * width p) =
    or_lt (8 * width p) p 1 (rw (pow_256 (width p)) at w.holds) (pow_mono {i = 1} (omega (arith, w.least))) in
    let least : j < 8 * width p = pow_reflects j (8 * width p) (lt_of_le_of_lt above held) in
    omega arith

-- ---- one byte

pub width_one : (p : ℕ) → p < 256 → width p ≡ 1
unfolding width width_from
width_one p l = pick_yes _ _ (ltb_yes l)

pub one_byte : {p : ℕ} → width p ≤ 1 → p < 2 ^ 64 → p < 256
one_byte {p} o fits =
    let w = width_holds p fits in
    let one : width p ≡ 1 = omega (arith, w.least) in
    rw one at w.holds

-- ---- the length of a header

-- A byte more than the width, unless the payload stands in the lead byte.
pub length_sum : (code p : ℕ) (inline : Bool) → inline ≡ ltb (p + shift code) (max_inline + 1)
    → width p + bool_byte (not inline) ≡ length (header code p)
length_sum code p inline e =
    order (max_inline + 1) (p + shift code)
    (λ l. rw (e, ltb_no l) (omega (arith, length-long code p l)))
    (λ l. rw (e, ltb_yes l) (omega (arith, length-short code p l, width_one p (omega arith))))

-- A header of two bytes is longer than it has to be where its payload stands in the lead byte.
pub two_is_long : (code p : ℕ) → p < 2 ^ 64 → ltb (p + shift code) (max_inline + 1) ≡ ltb (length (header code p)) 2
two_is_long code p fits =
    order (max_inline + 1) (p + shift code)
    (λ l. rw (ltb_no l, length-long code p l) (sym (ltb_no (omega (arith, (width_holds p fits).least)))))
    (λ l. rw (ltb_yes l, length-short code p l))
