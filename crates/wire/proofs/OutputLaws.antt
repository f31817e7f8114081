-- Numbers, headers and bytes, as they are written. Assumes nothing.
use mathlib.Core.Path.{◌≡◌, refl, ap, sym, ◌∙◌}
use mathlib.Core.List.{List, [], ◌∷◌, ◌++◌, append_assoc}
use Prim.Native.Nat.{ℕ, zero, suc, ◌+◌, ◌-◌, ◌*◌, ◌/◌, ◌%◌, ◌≤◌, ◌<◌}
use native.Mathlib.Numerals.{add-one}
use native.Mathlib.Omega.{arith}
use Rattle.std.proofs.lemmas.List.{drop-set}
use lib.ListN.{length, take, drop, set, length-set}
use borrow.Rule.Slice.PartMut.{put_mid}
use Rattle.format.specs.Header.{digits, shift, width, header}
use Rattle.format.proofs.Tests.{ltb_yes, ltb_no, pick_yes, pick_no}
use Rattle.format.proofs.Numbers.{length_digits}
use Rattle.format.proofs.Headers.{length-short}
use Rattle.wire.proofs.WidthLaws.{width_one}
use Rattle.wire.proofs.Wrote.{Wrote, start, byte_as, finish, byte_fits, byte_then}

-- ---- numbers

-- The last digit, written at its place before what stands behind.
pub last_digit : (l : List ℕ) (i n : ℕ) → 0 < i → i ≤ length l
    → digits (i - 1) (n / 256) ++ drop (i - 1) (set l (i - 1) (n % 256)) ≡ digits i n ++ drop i l
unfolding digits
last_digit l zero n p h = elim p [ ]
last_digit l (suc j) n p h =
    let m : suc j - 1 ≡ j = omega arith in
    let e : drop j (set l j (n % 256)) ≡ n % 256 ∷ drop (suc j) l = rw add-one at (drop-set l j (n % 256) (omega arith)) in
    rw (m, e, append_assoc)

-- ---- the bytes of the shortest header

pub header-short : (c p : ℕ) → p + shift c < 24 → header c p ≡ (c * 32 + (p + shift c)) ∷ []
unfolding header
header-short c p h = pick_yes _ _ (ltb_yes h)

pub header-long : (c p : ℕ) → 24 ≤ p + shift c → header c p ≡ (c * 32 + 23 + width p) ∷ digits (width p) p
unfolding header
header-long c p h = pick_no _ _ (ltb_no h)

pub header-two : (c p : ℕ) → 24 ≤ p + shift c → p < 256 → header c p ≡ (c * 32 + 23 + 1) ∷ p ∷ []
unfolding digits
header-two c p h l = let e : p % 256 ≡ p = omega arith in header-long c p h ∙ rw (width_one p l, e)

-- ---- the shortest header, written

module _ (c p : ℕ) (out : List ℕ) (capacity : length (header c p) ≤ length out) where
  pub put-short : (b : ℕ) → p + shift c < 24 → b ≡ c * 32 + (p + shift c)
      → (1 ≡ length (header c p)) × (set out 0 b ≡ header c p ++ drop (length (header c p)) out)
  put-short b h e =
      let l = length-short c p h in
      finish (byte_as (start (header c p) out) (header-short c p h ∙ rw e) (omega arith)) (simp length-set (omega arith))

  pub put_two : (b : ℕ) → 24 ≤ p + shift c → p < 256 → b ≡ c * 32 + 23 + 1
      → (2 ≡ length (header c p)) × (set (set out 0 b) 1 p ≡ header c p ++ drop (length (header c p)) out)
  put_two b h l e =
      let t = header-two c p h l in
      let m = ap length t in
      let s = length-set out 0 b in
      finish (byte_as (byte_as (start (header c p) out) (t ∙ rw e) (omega arith)) refl (omega arith)) (simp length-set (omega arith))

  module _ (k : ℕ) (h : 24 ≤ p + shift c) (ek : k ≡ width p) where
    lead : header c p ≡ (c * 32 + 23 + k) ∷ digits k p
    lead = rw ek (header-long c p h)

    pub long-fits : k ≤ length (take (length (set out 0 (c * 32 + 23 + k)) - 1) (drop 1 (set out 0 (c * 32 + 23 + k))))
    long-fits = rw (length_digits k p) at (byte_fits (header c p) out (digits k p) [] (c * 32 + 23 + k) 0 lead capacity)

    pub put-long : (r : ℕ) (ys : List ℕ) → r ≡ k
        → ys ≡ digits k p ++ drop k (take (length (set out 0 (c * 32 + 23 + k)) - 1) (drop 1 (set out 0 (c * 32 + 23 + k))))
        → Wrote (header c p) out (put_mid 1 (length (set out 0 (c * 32 + 23 + k)) - 1) (set out 0 (c * 32 + 23 + k)) ys) (1 + r) []
    put-long r ys er ey =
        let d = length_digits k p in
        byte_then (header c p) out (digits k p) ys (c * 32 + 23 + k) r lead capacity (er ∙ sym d) (rw d ey)
