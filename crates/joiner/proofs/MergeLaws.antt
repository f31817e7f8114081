-- Two bundles that read, measured one after the other and then written: what each way out means. Assumes nothing.
use Rattle.std.specs.Prelude.{Option, None, Some, Ok}
use mathlib.Core.Path.{◌≡◌, refl, ap, ◌∙◌}
use mathlib.Core.Bool.{true, false}
use mathlib.Core.List.{List, [], ◌++◌, append-nil}
use Prim.Native.Nat.{ℕ, ◌≤◌, ◌<◌, min, zero-le}
use native.Mathlib.Omega.{arith}
use lib.Dec.{ltb}
use lib.ListN.{length, length-append}
use Rattle.format.specs.declared.error.Error.{Error}
use Rattle.format.specs.declared.error.Error.TheVariants.{OutputTooLong, TooManyEntries, TooManyRows}
use Rattle.format.specs.Limits.{max_entries, max_rows, max_bytes}
use Rattle.format.specs.Answer.{Answer, counted, fail, on_side, stored, then}
use Rattle.format.specs.Item.{Item}
use Rattle.format.specs.Names.{names_from}
use Rattle.format.specs.Reading.{State, items, items_of, lenient}
use Rattle.format.specs.Canonical.{canonical, canonical_from}
use Rattle.format.specs.Joining.{joining, together}
use Rattle.symbols.specs.declared.names.Names.{Names}
use Rattle.symbols.specs.Names.{Empty}
use Rattle.format.proofs.Tests.{leb-true, ltb-false}
use Rattle.format.proofs.Lists.{length-items}
use Rattle.format.proofs.ReadBack.{reading-reads}
use Rattle.format.proofs.Bounds.{reading-within}
use Rattle.format.proofs.Joins.{together-fits, together-names, together-rows, together-size}
use Rattle.symbols.proofs.EntryLaws.{side_first, side_second}
use Rattle.symbols.proofs.ChainLaws.{length_names}
use Rattle.encoder.proofs.MeasureLaws.{measured-none}
use Rattle.rewriter.specs.declared.measuring.Tally.{Tally}
use Rattle.rewriter.specs.declared.putting.Spot.{Spot}
use Rattle.format.specs.Demand3.{Joins}
use Rattle.rewriter.specs.Measuring.{Begun, Measures, Over, Tallied, text_of}
use Rattle.rewriter.specs.Putting as putting
use Rattle.rewriter.specs.Putting.{Planning}
use Rattle.joiner.specs.Merging.{Both, Measured, Planned, Put, Tabled, begun, top}

-- before the first item
pub put-none : (old : List ℕ) → putting.Put [] old old top
unfolding canonical canonical_from
put-none old = record { row = refl; puts = (refl, refl) }

module _ {a b : List ℕ} {rows : ℕ} (p : Both a b rows) where
  abbrev xs : List Item
  xs = items_of p.u.found

  abbrev ys : List Item
  ys = items_of p.v.found

  -- joining goes by the items of both
  joined : (capacity : ℕ) → joining lenient a b capacity ≡ together capacity (xs ++ ys)
  unfolding joining items on_side then
  joined capacity = rw (p.first, p.second)

  both-rows : length (xs ++ ys) ≡ rows
  both-rows = length-append xs ys ∙ omega (arith, length-items p.u.found, length-items p.v.found, p.count)

  refused : (old : List ℕ) {r : Answer ℕ} (k : Error) → r ≡ fail k 0
      → together (length old) (xs ++ ys) ≡ fail k 0 → Joins lenient a b old r old
  unfolding counted stored then fail
  refused old k q t = let e = joined (length old) ∙ t in record { answer = q ∙ rw e; buffer = rw e }

  pub rows-over : (old : List ℕ) {r : Answer ℕ} → r ≡ fail TooManyRows 0 → max_rows < rows → Joins lenient a b old r old
  rows-over old q l = refused old TooManyRows q (together-rows (length old) (xs ++ ys) (rw both-rows l))

  -- ---- measured

  module _ (l : rows ≤ max_rows) where
    module _ {names : Names} {plan : List ℕ} {start : Tally} (z : start ≡ begun) (e : Empty a b names) (n : length plan ≡ max_rows) where
      pub begun_first : Begun names 0 [] p.u plan start
      begun_first =
          let q : text_of names 0 ≡ a = side_first 0 names.first.now names.second.now refl ∙ e.first in
          rw z
          (record {
            bundled = record {
              sides = omega arith;
              which = refl;
              short = rw q (reading-reads a p.first).0;
              room = omega (arith, p.count);
            };
            reads = rw q p.first;
            before = record { row = refl; small = zero-le; measured = measured-none plan e n (omega arith) };
          })

      pub begun-second : {names' : Names} {plan' : List ℕ} {t : Tally}
          → ((zs : List Item) (u : State) → Begun names 0 zs u plan start → Measures names names' zs u plan' (Some t))
          → Begun names' 1 xs p.v plan' t
      begun-second {names'} m =
          let (t, k) = m [] p.u begun_first in
          let q : text_of names' 1 ≡ b = side_second 1 names'.first.now names'.second.now (λ h. omega arith) ∙ k.second ∙ e.second in
          record {
            bundled = record {
              sides = omega arith;
              which = refl;
              short = rw q (reading-reads b p.second).0;
              room = omega (arith, length-items p.u.found, p.count);
            };
            reads = rw q p.second;
            before = t;
          }

    -- one bundle has not too many names
    pub first-fits : Over [] p.u → ⊥
    first-fits l = absurd (omega (arith, (reading-within lenient a p.first).names))

    pub both-measured : (old new : Names) (plan : List ℕ) (t : Option Tally) → Measures old new xs p.v plan t → Measured p plan t
    both-measured old new plan None m = m.0
    both-measured old new plan (Some t) m = record { names = new; tallied = m.0 }

    few : length (xs ++ ys) ≤ max_rows
    few = rw both-rows l

    pub names-over : (old : List ℕ) {r : Answer ℕ} → r ≡ fail TooManyEntries 0 → max_entries < length (names_from [] (xs ++ ys))
        → Joins lenient a b old r old
    names-over old q g = refused old TooManyEntries q (together-names (length old) (xs ++ ys) few g)

    module _ {plan : List ℕ} {t : Tally} (m : Tabled p plan t) (old : List ℕ) where
      abbrev tallied : Tallied m.names plan (xs ++ ys) t
      tallied = m.tallied

      names : length (names_from [] (xs ++ ys)) ≤ max_entries
      names = omega (arith, ap length tallied.measured.names, length_names m.names, m.names.chained.table.few)

      pub size-over : {r : Answer ℕ} → r ≡ fail OutputTooLong 0
          → ltb (min max_bytes (length old)) t.size ≡ true → Joins lenient a b old r old
      size-over q o =
          refused old OutputTooLong q
          (together-size (length old) (xs ++ ys) few names (rw (← tallied.measured.length_is) (leb-true _ _ o)))

      module _ (o : ltb (min max_bytes (length old)) t.size ≡ false) where
        fits : length (canonical (xs ++ ys)) ≤ min max_bytes (length old)
        fits = rw (← tallied.measured.length_is) (ltb-false _ _ o)

        pub planned : Planned p plan (length old)
        planned = record {
          size = tallied.measured.plan_size;
          planned = tallied.measured.planned;
          few = names;
          fits = omega (arith, fits);
        }

        pub written : {new : List ℕ} {w : Spot} → Put p old new w → Joins lenient a b old (Ok t.size) new
        unfolding counted stored then
        written q =
            let e = joined (length old) ∙ together-fits (length old) (xs ++ ys) (record { rows = few; names = names; size = fits }) in
            record { answer = rw e (ap Ok tallied.measured.length_is); buffer = rw e q.puts.1 }

  -- ---- written

  module _ {plan : List ℕ} {capacity : ℕ} (g : Planned p plan capacity) where
    pub planning-first : Planning a [] ys p.u plan capacity
    planning-first = record {
      short = (reading-reads a p.first).0;
      reads = p.first;
      size = g.size;
      planned = g.planned;
      few = g.few;
      fits = g.fits;
    }

    pub planning-second : Planning b xs [] p.v plan capacity
    planning-second =
        record {
          short = (reading-reads b p.second).0;
          reads = p.second;
          size = g.size;
          planned = rw (append-nil (xs ++ ys)) g.planned;
          few = rw (append-nil (xs ++ ys)) g.few;
          fits = rw (append-nil (xs ++ ys)) g.fits;
        }
