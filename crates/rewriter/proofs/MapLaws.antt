-- The map from the entries of a bundle to the names so far: one look-up for each name in full, none for a reference. Assumes nothing.
use Rattle.std.specs.Prelude.{Some, slice_get}
use mathlib.Core.Path.{◌≡◌, subst}
use mathlib.Core.Logic.{⊎_elim}
use mathlib.Core.Bool.{true}
use mathlib.Core.List.{List, [], ◌∷◌, ◌++◌}
use Prim.Native.Nat.{ℕ, ◌<◌}
use native.Mathlib.Omega.{arith}
use lib.ListN.{length, get_or, set}
use lib.Seq.{get_or-set_same, get_or-set_other}
use Rattle.format.specs.Item.{Item, is_name}
use Rattle.format.specs.Names.{index, noted}
use Rattle.format.proofs.Tests.{none-some}
use Rattle.format.proofs.Encoding.{at_lt}
use Rattle.format.proofs.Names.{Noting, plain, known, fresh, noting, index_front, at_snoc}
use Rattle.rewriter.specs.Measuring.{Mapped}

-- a bundle begins
pub mapped-start : (to : List ℕ) (names : List Item) → Mapped [] to names
mapped-start to names = record { at = λ k x e. none-some e }

module _ {olds : List Item} {to : List ℕ} {names : List Item} (m : Mapped olds to names) (y : Item) where
  -- a name more disturbs none
  pub mapped-noted : Mapped olds to (noted y names)
  mapped-noted = record { at = λ k x e. ((m.at k x e).0, go k x (m.at k x e).1 (noting y names)) }
    where
      go : (k : ℕ) (x : Item) → index x names ≡ Some (get_or to k 0) → Noting y names → index x (noted y names) ≡ Some (get_or to k 0)
      go k x e (plain n q) = rw q e
      go k x e (known i n p q) = rw q e
      go k x e (fresh n p q) = rw q (index_front x names (y ∷ []) e)

  -- an entry more
  pub mapped-entry : (v : ℕ) → length olds < length to → is_name y ≡ true → index y (noted y names) ≡ Some v
      → Mapped (olds ++ (y ∷ [])) (set to (length olds) v) (noted y names)
  mapped-entry v room n i = record { at = λ k x e. ⊎_elim (before k x) (last k x) (at_snoc olds y k e) }
    where
      before : (k : ℕ) (x : Item) → slice_get olds k ≡ Some x → (is_name x ≡ true)
          × (index x (noted y names) ≡ Some (get_or (set to (length olds) v) k 0))
      before k x p = let l : k < length olds = at_lt olds k p in
          rw (get_or-set_other to (length olds) k v 0 (λ q. omega arith)) (mapped-noted.at k x p)

      last : (k : ℕ) (x : Item) → (k ≡ length olds) × (y ≡ x) → (is_name x ≡ true)
          × (index x (noted y names) ≡ Some (get_or (set to (length olds) v) k 0))
      last k x p = rw (p.0, get_or-set_same to (length olds) v 0 room)
          (subst (λ (z : Item). (is_name z ≡ true) × (index z (noted y names) ≡ Some v)) p.1 (n, i))
