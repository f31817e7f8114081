-- The place among containers, kept as a depth, the fields left and a stack. Assumes nothing.
use mathlib.Core.Path.{◌≡◌, refl, ap, ◌∙◌}
use mathlib.Core.Bool.{true, false, ◌&&◌}
use mathlib.Core.List.{List, ◌∷◌}
use Prim.Native.Nat.{ℕ, zero, suc, ◌+◌, ◌-◌, ◌≤◌, ◌<◌}
use native.Mathlib.Numerals.{add-one}
use native.Mathlib.Omega.{arith}
use lib.Dec.{ltb}
use lib.ListN.{length, get_or, set, length-set}
use lib.Seq.{get_or-set_same, get_or-set_other}
use Rattle.format.specs.Choice.{pick}
use Rattle.format.specs.Item.{Item, is_key, is_container}
use Rattle.format.specs.Place.{Place, ended, moved}
use Rattle.format.specs.Limits.{max_depth, max_rows}
use Rattle.format.proofs.Tests.{order, ltb_yes, ltb_no, pick_yes, pick_no}
use Rattle.rows.specs.declared.place.Level.{Level}
use Rattle.rows.specs.Stack.{opened_of, bottom, closed, Stands}

-- ---- the loop that closes containers

module _ (st : List ℕ) where
  pub top_left : (d l : ℕ) → l < 2 → 2 ≤ bottom st d l → 0 < d
  unfolding bottom
  top_left zero l s h = absurd (omega arith)
  top_left (suc d) l s h = omega arith

  pub close_out : (d l : ℕ) → l < 2 → 0 < d → closed st d l ≡ closed st (d - 1) (get_or st (d - 1) 0)
  unfolding closed
  close_out zero l s h = absurd (omega arith)
  close_out (suc d) l s h = let e : suc d - 1 ≡ d = omega arith in pick_yes _ _ (ltb_yes s) ∙ rw e

  pub bottom_out : (d l : ℕ) → 0 < d → bottom st d l ≡ bottom st (d - 1) (get_or st (d - 1) 0)
  unfolding bottom
  bottom_out zero l h = absurd (omega arith)
  bottom_out (suc d) l h = let e : suc d - 1 ≡ d = omega arith in rw e

  pub close_here : (d l : ℕ) → 2 ≤ l → closed st d l ≡ record { depth = d; left = l - 1 }
  unfolding closed
  close_here zero l h = refl
  close_here (suc d) l h = pick_no _ _ (ltb_no h)

pub opened-length : (st : List ℕ) (d l : ℕ) → length (opened_of st d l) ≡ d
unfolding opened_of
opened-length st zero l = refl
opened-length st (suc d) l = ap suc (opened-length st d (get_or st d 0))

-- ---- after a value

-- a value ends what `closed` closes
record Ends (st : List ℕ) (d l : ℕ) (p : Place) (to : Level) : Type 0 where
  pub opened : p.opened ≡ opened_of st to.depth to.left
  pub key : p.keyed ≡ false
  pub deep : to.depth ≤ d
  pub high : bottom st d l ≤ bottom st to.depth to.left + 1

ends : (st : List ℕ) (d l f : ℕ) → 2 ≤ bottom st d l → Ends st d l (ended (opened_of st d l) f) (closed st d l)
unfolding opened_of bottom closed ended pick
ends st zero l f h = record { opened = refl; key = refl; deep = omega arith; high = omega arith }
ends st (suc d) l f h =
    order 2 l
    (λ u. rw (ltb_no {a = l} {b = 2} u) (record { opened = refl; key = refl; deep = omega arith; high = omega arith }))
    (λ u. let e = ends st d (get_or st d 0) f h in
    rw (ltb_yes {a = l} {b = 2} u)
    (record { opened = e.opened; key = e.key; deep = omega (arith, e.deep); high = e.high }))

-- ---- a store above changes nothing below

opened-set : (st : List ℕ) (i v d l : ℕ) → d ≤ i → opened_of (set st i v) d l ≡ opened_of st d l
unfolding opened_of
opened-set st i v zero l h = refl
opened-set st i v (suc d) l h =
    ap (λ (os : List ℕ). l ∷ os) (opened-set st i v d (get_or (set st i v) d 0) (omega arith)
    ∙ ap (opened_of st d) (get_or-set_other st i d v 0 (λ e. omega arith)))

bottom-set : (st : List ℕ) (i v d l : ℕ) → d ≤ i → bottom (set st i v) d l ≡ bottom st d l
unfolding bottom
bottom-set st i v zero l h = refl
bottom-set st i v (suc d) l h = bottom-set st i v d (get_or (set st i v) d 0) (omega arith)
    ∙ ap (bottom st d) (get_or-set_other st i d v 0 (λ e. omega arith))

-- ---- the place after an item

module _ {st : List ℕ} {d l k row : ℕ} {p : Place} (s : Stands st d l k row p) (x : Item) where
  pub stands-value : row < max_rows → is_key x ≡ false → is_container x && ltb 0 x.number ≡ false
      → let to = closed st d l in Stands st to.depth to.left 0 (row + 1) (moved p x)
  unfolding moved
  stands-value lt key box =
      let e = ends st d l p.fields (omega (arith, s.high)) in
      let m : moved p x ≡ ended (opened_of st d l) p.fields = pick_no _ _ key ∙ pick_no _ _ box
      ∙ ap (λ (os : List ℕ). ended os p.fields) s.opened in
      record {
        size = s.size;
        deep = omega (arith, e.deep, s.deep);
        high = omega (arith, e.high, s.high);
        opened = ap (λ (q : Place). q.opened) m ∙ e.opened;
        key = ap (λ (q : Place). q.keyed) m ∙ e.key;
      }

  pub stands-key : is_key x ≡ true → Stands st d l 1 (row + 1) (moved p x)
  unfolding moved pick
  stands-key key = record { size = s.size; deep = s.deep; high = omega (arith, s.high); opened = rw key s.opened; key = rw key }

  pub stands_open : is_key x ≡ false → is_container x && ltb 0 x.number ≡ true → d < max_depth
      → Stands (set st d l) (d + 1) x.number 0 (row + 1) (moved p x)
  unfolding moved pick opened_of bottom
  stands_open key box lt =
      let v = get_or-set_same st d l 0 (omega (arith, s.size)) in
      record {
        size = length-set st d l ∙ s.size;
        deep = omega arith;
        high = rw (add-one d, v, bottom-set st d l d l (omega arith)) (omega (arith, s.high));
        opened = rw (key, box, add-one d, v, opened-set st d l d l (omega arith)) (ap (λ (os : List ℕ). x.number ∷ os) s.opened);
        key = rw (key, box);
      }
