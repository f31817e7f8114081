-- Bytes compared, one by one. Assumes nothing.
use mathlib.Core.Path.{◌≡◌, refl, ap, ◌∙◌}
use mathlib.Core.Bool.{true, false, ◌&&◌}
use mathlib.Core.List.{List, [], ◌∷◌}
use Prim.Native.Nat.{ℕ, suc, ◌+◌, ◌<◌}
use native.Mathlib.Numerals.{add-one}
use lib.Dec.{eqb}
use lib.ListN.{length, drop, get_or}
use lib.Seq.{drop-cons, drop-length}
use Rattle.format.specs.Names.{same}
use Rattle.format.proofs.Tests.{eqb_yes, eqb_no, and_no_left, and_no_right}

-- ---- the same bytes

pub apart : (xs ys : List ℕ) → (length xs ≡ length ys → ⊥) → same xs ys ≡ false
unfolding same
apart [] [] h = absurd (h refl)
apart [] (y ∷ ys) h = refl
apart (x ∷ xs) [] h = refl
apart (x ∷ xs) (y ∷ ys) h = and_no_right (eqb x y) (apart xs ys (λ e. h (ap suc e)))

module _ (xs ys : List ℕ) (i : ℕ) (hx : i < length xs) (hy : i < length ys) where
  both : same (drop i xs) (drop i ys) ≡ (eqb (get_or xs i 0) (get_or ys i 0) && same (drop (i + 1) xs) (drop (i + 1) ys))
  unfolding same
  both = rw (add-one, drop-cons xs i 0 hx, drop-cons ys i 0 hy)

  -- the element at i differs: not the same
  pub differs : (get_or xs i 0 ≡ get_or ys i 0 → ⊥) → same (drop i xs) (drop i ys) ≡ false
  differs h = both ∙ and_no_left _ (eqb_no h)

  -- it is the same: the rest decides
  pub agrees : get_or xs i 0 ≡ get_or ys i 0 → same (drop i xs) (drop i ys) ≡ same (drop (i + 1) xs) (drop (i + 1) ys)
  agrees h = both ∙ rw (eqb_yes h)

-- at the end of both
pub ends : (xs ys : List ℕ) (i : ℕ) → i ≡ length xs → length xs ≡ length ys → same (drop i xs) (drop i ys) ≡ true
unfolding same
ends xs ys i h k = rw (h, drop-length xs, k, drop-length ys)
