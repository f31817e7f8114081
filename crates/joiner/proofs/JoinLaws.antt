-- From what checking answers to what joining and canonicalizing promise. Assumes nothing.
use Rattle.std.specs.Prelude.{Err, Ok}
use mathlib.Core.Path.{◌≡◌, refl, sym, ap, subst, ◌∙◌}
use mathlib.Core.List.{List, [], ◌++◌, append-nil}
use Prim.Native.Nat.{ℕ, ◌+◌, ◌≤◌}
use native.Mathlib.Nat.{add-zero}
use native.Mathlib.Omega.{arith}
use lib.ListN.{length}
use Rattle.format.specs.declared.bundle.Bundle.{Bundle}
use Rattle.format.specs.declared.failure.Failure.{Failure}
use Rattle.format.specs.Choice.{pick}
use Rattle.format.specs.Answer.{Answer, counted, on_side, sided, stored, then}
use Rattle.format.specs.Item.{Item}
use Rattle.format.specs.Place.{due, top}
use Rattle.format.specs.Reading.{State, counts, counts_of, ending, items, items_of, lenient, reading, run, start}
use Rattle.format.specs.Canonical.{canonical}
use Rattle.format.specs.Writing.{fitted}
use Rattle.format.specs.Joining.{canonicalizing, joining, together}
use Rattle.format.proofs.Tests.{failed-good, failed_inj, good_inj}
use Rattle.format.proofs.Steps.{then-good}
use Rattle.format.proofs.ReadBack.{reading-reads}
use Rattle.format.proofs.Bounds.{reading-within, reads-rows}
use Rattle.format.proofs.Joins.{together-within}
use Rattle.format.specs.Written.{Writes}
use Rattle.format.specs.Demand3.{Joins}
use Rattle.format.specs.Limits.{max_rows}
use Rattle.joiner.specs.Merging.{Both}

-- ---- what checking says

unread : (bs : List ℕ) {f : Failure} → Err f ≡ counts lenient bs → reading lenient bs ≡ Err f
unfolding counts then
unread bs {f} e = go (reading lenient bs) e
  where
    go : (r : Answer State) → Err f ≡ then r (λ s. Ok (counts_of s)) → r ≡ Err f
    go (Err g) q = ap Err (sym (failed_inj q))
    go (Ok s) q = failed-good q

-- A bundle reads, and has so many rows.
pub record Reads (bs : List ℕ) (rows : ℕ) : Type 0 where
  pub u : State
  pub is : reading lenient bs ≡ Ok u
  pub count : rows ≡ length u.found

pub reads : (bs : List ℕ) {b : Bundle} → Ok b ≡ counts lenient bs → Reads bs b.rows
unfolding counts counts_of
reads bs e =
    let (u, p, q) = then-good (reading lenient bs) _ (sym e) in
    record { u = u; is = p; count = sym (ap (λ (c : Bundle). c.rows) (good_inj q)) }

pub reads-few : {bs : List ℕ} {rows : ℕ} → Reads bs rows → rows ≤ max_rows
unfolding start
reads-few {bs} r = omega (arith, r.count, reads-rows (reading-reads bs r.is).1 (omega arith))

pub both : {a b : List ℕ} {m n : ℕ} → Reads a m → Reads b n → Both a b (m + n)
both p q = record { u = p.u; v = q.u; first = p.is; second = q.is; count = omega (arith, p.count, q.count) }

-- ---- joining

-- On either side a bundle that reads is the same, and one that does not has its failure on that side.
pub counts_on : (k : ℕ) (r : Answer Bundle) {b : Bundle} → Ok b ≡ on_side k r → Ok b ≡ r
unfolding on_side
counts_on k (Err f) e = failed-good (sym e)
counts_on k (Ok b) e = e

pub failed_on : (k : ℕ) (r : Answer Bundle) {g : Failure} → Err g ≡ on_side k r → (f : Failure) × (Err f ≡ r) × (g ≡ sided k f)
unfolding on_side
failed_on k (Err f) e = (f, refl, failed_inj e)
failed_on k (Ok b) e = failed-good e

module _ (a b old : List ℕ) {f g : Failure} where
  pub unread_first : Err f ≡ counts lenient a → g ≡ sided 1 f → Joins lenient a b old (Err g) old
  unfolding joining items on_side then counted stored
  unread_first q e = let r = unread a q in record { answer = rw r (ap Err e); buffer = rw r }

  pub unread_second : {m : ℕ} → Reads a m → Err f ≡ counts lenient b → g ≡ sided 2 f → Joins lenient a b old (Err g) old
  unfolding joining items on_side then counted stored
  unread_second w q e = let r = unread b q in record { answer = rw (w.is, r) (ap Err e); buffer = rw (w.is, r) }

-- ---- canonicalizing

pub unread-alone : (bs old : List ℕ) {f : Failure} → Err f ≡ counts lenient bs
    → Writes (canonicalizing bs (length old)) old (Err f) old
unfolding canonicalizing items then counted stored
unread-alone bs old q = let r = unread bs q in record { answer = rw r; buffer = rw r }

-- the empty bundle
empty_is : reading lenient [] ≡ Ok start
unfolding reading run start ending pick due top
empty_is = refl

empty_reads : Reads [] 0
unfolding start
empty_reads = record { u = start; is = empty_is; count = refl }

pub with_empty : {bs : List ℕ} {m : ℕ} → Reads bs m → Both bs [] m
with_empty {bs} {m} w = subst (Both bs []) (add-zero m) (both w empty_reads)

module _ {bs : List ℕ} {m : ℕ} (w : Reads bs m) where
  abbrev xs : List Item
  xs = items_of w.u.found

  alone : (capacity : ℕ) → canonicalizing bs capacity ≡ fitted capacity (canonical xs)
  unfolding canonicalizing items then
  alone capacity = rw w.is

  -- with the empty bundle it is the same
  same : (capacity : ℕ) → joining lenient bs [] capacity ≡ canonicalizing bs capacity
  unfolding joining items on_side then start items_of
  same capacity =
      let k : joining lenient bs [] capacity ≡ together capacity (xs ++ []) = rw (w.is, empty_is) in
      k ∙ ap (together capacity) (append-nil xs) ∙ together-within capacity xs (reading-within lenient bs w.is) ∙ sym (alone capacity)

  pub canonicalized : {old new : List ℕ} {r : Answer ℕ} → Joins lenient bs [] old r new → Writes (canonicalizing bs (length old)) old r new
  canonicalized {old} j = rw (same (length old)) at j
