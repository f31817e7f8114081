-- Headers and their numbers, for the loop over a payload and the answers. Assumes nothing.
use Rattle.std.specs.Prelude.{None, Some}
use mathlib.Core.Path.{◌≡◌, refl, ap, sym, subst, ◌∙◌}
use mathlib.Core.Logic.{◌≢◌}
use mathlib.Core.List.{List, [], ◌∷◌}
use Prim.Native.Nat.{ℕ, ◌+◌, ◌-◌, ◌*◌, ◌/◌, ◌%◌, ◌^◌, ◌≤◌, ◌<◌}
use native.Mathlib.Nat.{pow-suc, pow-le-pow_right}
use native.Mathlib.Numerals.{add-one}
use native.Mathlib.Omega.{arith}
use lib.Dec.{lit<}
use lib.ListN.{length, take, drop, get_or, length-drop, drop_of_length-le}
use lib.Seq.{take-suc, take_all, drop-cons}
use Rattle.format.specs.Choice.{pick}
use Rattle.format.specs.Limits.{max_inline}
use Rattle.format.specs.Header.{big_endian, following, payload_of, header_of}
use Rattle.format.proofs.Tests.{eqb_no, leb_yes, leb_no, ltb_no, pick_yes, pick_no}
use Rattle.format.proofs.Numbers.{big_endian-append}
use Rattle.format.proofs.Headers.{payload-inside, shift-other}

-- ---- numbers

-- one byte more
pub big_endian_step : (s : List ℕ) (i : ℕ) → i < length s
    → big_endian 0 (take (i + 1) s) ≡ big_endian 0 (take i s) * 256 + get_or s i 0
unfolding big_endian
big_endian_step s i h =
    ap (λ (x : ℕ). big_endian 0 (take x s)) (add-one i)
    ∙ ap (big_endian 0) (take-suc s i 0 h) ∙ big_endian-append 0 (take i s) (get_or s i 0 ∷ [])

-- and its bound
pub more : (p b i : ℕ) → p < 256 ^ i → b < 256 → p * 256 + b < 256 ^ (i + 1)
more p b i h k = subst (λ (x : ℕ). p * 256 + b < x) (sym (ap (λ (x : ℕ). 256 ^ x) (add-one i) ∙ pow-suc 256 i)) (omega arith)

pub most : (i : ℕ) → i < 8 → 256 ^ (i + 1) ≤ 18446744073709551616
most i h = pow-le-pow_right {n = 256} (lit< tt) {i = i + 1} {j = 8} (omega arith)

pub big_endian_one : (s : List ℕ) (n : ℕ) → n ≡ 1 → 0 < length s → get_or s 0 0 ≡ big_endian 0 (take n s)
unfolding big_endian
big_endian_one [] n e l = absurd (omega arith)
big_endian_one (b ∷ bs) n e l = rw e (omega arith)

-- ---- headers

pub no_header : (s : List ℕ) (at : ℕ) → length s ≤ at → header_of (drop at s) ≡ None
unfolding header_of
no_header s at h = rw (drop_of_length-le s h)

-- what stands from an offset on: its first byte, and the rest
pub found : (s : List ℕ) (at b : ℕ) → at < length s → b ≡ get_or s at 0 → drop at s ≡ b ∷ take (length s - (at + 1)) (drop (at + 1) s)
found s at b h e =
    rw (take_all (length s - (at + 1)) (drop (at + 1) s) (omega (arith, length-drop (at + 1) s)), add-one, drop-cons s at 0 h, e)

module _ (b : ℕ) (bs : List ℕ) where
  module _ (n : ℕ) (en : n ≡ following (b / 32) (b % 32)) where
    pub cut-header : length bs < n → header_of (b ∷ bs) ≡ None
    unfolding header_of
    cut-header l = let g : length bs < following (b / 32) (b % 32) = rw (← en) l in pick_no _ _ (leb_no g)

    pub whole-header : n ≤ length bs → (p z : ℕ) → p ≡ payload_of (b / 32) (b % 32) n bs → z ≡ 1 + n
        → header_of (b ∷ bs) ≡ Some (record { code = b / 32; sz = b % 32; payload = p; size = z })
    unfolding header_of
    whole-header l p z e ez =
        let g : following (b / 32) (b % 32) ≤ length bs = rw (← en) l in pick_yes _ _ (leb_yes g) ∙ rw (e, ez, en)

  -- one byte with the payload in it
  pub inline-header : b / 32 ≢ 0 → b % 32 ≤ max_inline
      → header_of (b ∷ bs) ≡ Some (record { code = b / 32; sz = b % 32; payload = b % 32; size = 1 })
  unfolding following pick
  inline-header c l =
      let n : 0 ≡ following (b / 32) (b % 32) = rw (ltb_no {a = max_inline} {b = b % 32} l, eqb_no c) in
      let p = payload-inside (b / 32) (b % 32) 0 bs refl in
      let z = shift-other (b / 32) c in
      whole-header 0 n (omega arith) _ 1 (omega (arith, p, z)) refl
