-- Numbers in decimal: one digit, or those of a tenth and then the last; how many there are; and how they are written. Assumes nothing.
use mathlib.Core.Path.{◌≡◌, sym, ap, subst⁻¹, ◌∙◌}
use mathlib.Core.List.{List, [], ◌∷◌, ◌++◌, append_assoc, flatten}
use Prim.Native.Nat.{ℕ, zero, suc, ◌+◌, ◌/◌, ◌%◌, ◌^◌, ◌≤◌, ◌<◌}
use native.Mathlib.Nat.{div-lt_iff_lt-mul, pow-suc}
use native.Mathlib.Omega.{arith}
use lib.ListN.{length, length-append}
use Rattle.format.proofs.Tests.{ltb_no, ltb_yes, order, pick_no, pick_yes}
use Rattle.ascii.specs.Text.{decimal, decimal_in, max_digits}
use Rattle.wire.specs.Output.{Puts}
use Rattle.ascii.proofs.Writing.{Stage, start, first_fits, first}

module _ (k n : ℕ) where
  in_small : n < 10 → decimal_in (suc k) n ≡ (48 + n) ∷ []
  unfolding decimal_in
  in_small l = pick_yes _ _ (ltb_yes l)

  in_large : 10 ≤ n → decimal_in (suc k) n ≡ decimal_in k (n / 10) ++ ((48 + n % 10) ∷ [])
  unfolding decimal_in
  in_large l = pick_no _ _ (ltb_no l)

-- One digit more changes nothing where there are enough.
enough : (k n : ℕ) → n < 10 ^ suc k → decimal_in (suc (suc k)) n ≡ decimal_in (suc k) n
enough zero n l = in_small 1 n l ∙ sym (in_small 0 n l)
enough (suc k) n l =
    order 10 n
    (λ g. in_large (suc (suc k)) n g
    ∙ ap (λ (ds : List ℕ). ds ++ ((48 + n % 10) ∷ []))
    (enough k (n / 10) ((div-lt_iff_lt-mul (omega arith)).1 (rw pow-suc at l))) ∙ sym (in_large (suc k) n g))
    (λ g. in_small (suc (suc k)) n g ∙ sym (in_small (suc k) n g))

small : (n : ℕ) → n < 10 → decimal n ≡ (48 + n) ∷ []
unfolding decimal
small n l = in_small 19 n l

large : (n : ℕ) → 10 ≤ n → n < 2 ^ 64 → decimal n ≡ decimal (n / 10) ++ ((48 + n % 10) ∷ [])
unfolding decimal
large n l fits = in_large 19 n l ∙ ap (λ (ds : List ℕ). ds ++ ((48 + n % 10) ∷ [])) (sym (enough 18 (n / 10) (omega arith)))

few : (k n : ℕ) → length (decimal_in k n) ≤ k
unfolding decimal_in
few zero n = omega arith
few (suc k) n =
    order 10 n (λ g. rw (in_large k n g, length-append (decimal_in k (n / 10))) (omega (arith, few k (n / 10))))
    (λ g. rw (in_small k n g) (omega arith))

pub length-decimal : (n : ℕ) → length (decimal n) ≤ max_digits
unfolding decimal
length-decimal n = few max_digits n

-- two digits, and the last two
pair : (n : ℕ) → 10 ≤ n → n < 100 → decimal n ≡ flatten (((48 + n / 10) ∷ []) ∷ ((48 + n % 10) ∷ []) ∷ [])
unfolding flatten
pair n g l = large n g (omega arith) ∙ ap (λ (ds : List ℕ). ds ++ ((48 + n % 10) ∷ [])) (small (n / 10) (omega arith))

last-two : (n : ℕ) → 100 ≤ n → n < 2 ^ 64 → decimal n ≡ flatten (decimal (n / 100) ∷ ((48 + n % 100 / 10) ∷ [])
    ∷ ((48 + n % 100 % 10) ∷ []) ∷ [])
unfolding flatten
last-two n g fits =
    let hundredth : n / 10 / 10 ≡ n / 100 = omega arith in
    let tens : n / 10 % 10 ≡ n % 100 / 10 = omega arith in
    let ones : n % 10 ≡ n % 100 % 10 = omega arith in
    large n (omega arith) fits
    ∙ ap (λ (ds : List ℕ). ds ++ ((48 + n % 10) ∷ [])) (large (n / 10) (omega arith) (omega arith))
    ∙ append_assoc (decimal (n / 10 / 10)) ((48 + n / 10 % 10) ∷ []) ((48 + n % 10) ∷ [])
    ∙ rw (hundredth, tens, ones)

-- ---- written

module _ (n : ℕ) (out : List ℕ) (capacity : length (decimal n) ≤ length out) where
  from_start : (ps : List (List ℕ)) → decimal n ≡ flatten ps → Stage (decimal n) out out 0 ps
  from_start ps e = subst⁻¹ (λ (w : List ℕ). Stage w out out 0 ps) e (start ps out (rw e at capacity))

  pub one_digit : n < 10 → Stage (decimal n) out out 0 (((48 + n) ∷ []) ∷ [])
  unfolding flatten
  one_digit l = from_start (((48 + n) ∷ []) ∷ []) (small n l)

  pub two_digits : 10 ≤ n → n < 100 → Stage (decimal n) out out 0 (((48 + n / 10) ∷ []) ∷ ((48 + n % 10) ∷ []) ∷ [])
  two_digits g l = from_start (((48 + n / 10) ∷ []) ∷ ((48 + n % 10) ∷ []) ∷ []) (pair n g l)

  module _ (g : 100 ≤ n) (fits : n < 2 ^ 64) where
    abbrev digits : List (List ℕ)
    digits = ((48 + n % 100 / 10) ∷ []) ∷ ((48 + n % 100 % 10) ∷ []) ∷ []

    pub hundredth_fits : length (decimal (n / 100)) ≤ length out
    hundredth_fits = first_fits (decimal (n / 100)) digits out (rw (last-two n g fits) at capacity)

    pub last_digits : (l : List ℕ) (at : ℕ) → Puts (decimal (n / 100)) at out l → Stage (decimal n) out l at digits
    last_digits l at p =
        let e = last-two n g fits in
        subst⁻¹ (λ (w : List ℕ). Stage w out l at digits) e (first (decimal (n / 100)) digits out (rw e at capacity) l at p)
