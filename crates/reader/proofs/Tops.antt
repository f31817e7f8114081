-- The fields at the top: where the loop starts, and what its ends mean. Assumes nothing.
use Rattle.std.specs.Prelude.{Err, Ok}
use mathlib.Core.Path.{◌≡◌, refl, ap, sym, ◌∙◌}
use mathlib.Core.Bool.{Bool, true, false}
use mathlib.Core.List.{List, []}
use Prim.Native.Nat.{ℕ, ◌+◌, ◌-◌, ◌≤◌, ◌<◌, min}
use native.Mathlib.Omega.{arith}
use lib.Dec.{eqb}
use lib.ListN.{length, drop, replicate}
use Rattle.format.specs.declared.failure.Failure.{Failure}
use Rattle.format.specs.declared.error.Error.TheVariants.{TooLong, Truncated}
use Rattle.format.specs.Limits.{max_bytes, max_rows, max_depth}
use Rattle.format.specs.Answer.{Answer, fail, then}
use Rattle.format.specs.Place.{Place, top, ended, due}
use Rattle.format.specs.Reading.{Options, State, start, ending, run, reading, counts_of, counts}
use Rattle.format.proofs.Steps.{run_end}
use Rattle.format.proofs.Tests.{ltb_yes, ltb_no, pick_yes, pick_no}
use Rattle.symbols.proofs.ChainLaws.{chain_start}
use Rattle.reader.specs.declared.fields.Cursor.{Cursor}
use Rattle.symbols.specs.Entries.{entries_of}
use Rattle.items.specs.Judging.{Fair, Stands, spot}
use Rattle.reader.specs.Lanes.{Lane, Leads}
use Rattle.symbols.proofs.Entries.{length-entries}

pub fair-start : (strict : Bool) (s : List ℕ) → Fair strict s (replicate {A = ℕ} 256 0) (replicate {A = ℕ} 768 0) 0
fair-start strict s = record { few = omega arith; size = refl; chained = λ _. chain_start s s _ _ refl refl }

pub stands-start : (s es : List ℕ) → Stands s es 0 0 0 start
unfolding start top entries_of
stands-start s es = record { offset = refl; key = refl; entries = refl }

pub row-start : (o : Options) (most : ℕ) → min max_rows o.capacity ≡ most → length start.found + most ≡ min max_rows o.capacity
unfolding start
row-start o most e = omega arith

-- The places at the top, of which the fields that are read are counted.
abbrev pub outside : ℕ → ℕ → Bool → Place
outside n left b = spot [] b (n - left)

pub outside_lane : (n : ℕ) → Lane (outside n) max_depth n
unfolding ended
outside_lane n =
    record {
      deep = λ left b l w. refl;
      value = λ left b l w. ap (spot [] false) (let e : n - left + 1 ≡ n - (left - 1) = omega arith in e);
      key = λ left b l w. refl;
    }

pub top-place : start.place ≡ spot [] false 0
unfolding start top
top-place = refl

-- ---- the ends

module _ (o : Options) (s : List ℕ) where
  pub too_long : max_bytes < length s → fail TooLong 0 ≡ counts o s
  unfolding counts reading then fail
  too_long l = sym (ap (λ (x : Answer State). then x (λ u. Ok (counts_of u))) (pick_yes _ _ (ltb_yes l)))

  module _ (short : length s ≤ max_bytes) where
    from_start : (v : Answer State) → run o start 0 (drop start.at s) ≡ v → counts o s ≡ then v (λ u. Ok (counts_of u))
    unfolding counts reading start
    from_start v e = ap (λ (x : Answer State). then x (λ u. Ok (counts_of u))) (pick_no _ _ (ltb_no short) ∙ e)

    pub top-failed : {f : Failure} → run o start 0 (drop start.at s) ≡ Err f → Err f ≡ counts o s
    unfolding then
    top-failed {f} e = sym (from_start (Err f) e)

    module _ {es : List ℕ} {t : Cursor} {f : ℕ} (lead : Leads o s es t (spot [] (eqb t.keyed 1) f) start) (l : length s ≤ t.at) where
      at-end : run o start 0 (drop start.at s) ≡ ending lead.next
      at-end = lead.is ∙ run_end o lead.next s (omega (arith, lead.stands.offset))

      pub top-keyed : eqb t.keyed 1 ≡ true → fail Truncated t.at ≡ counts o s
      unfolding fail ending due
      top-keyed k = top-failed (at-end ∙ pick_yes _ _ (ap due lead.place ∙ rw k) ∙ ap (fail Truncated) lead.stands.offset)

      pub top-good : (most : ℕ) → min max_rows o.capacity ≡ most → length es ≡ 256 → t.names ≤ 256 → eqb t.keyed 1 ≡ false
          → Ok (record { rows = most - t.rows; entries = t.names; fields = f }) ≡ counts o s
      unfolding then ending due counts_of
      top-good most m size few k =
          let r : length lead.next.found ≡ most - t.rows = omega (arith, lead.row) in
          let e : length lead.next.entries ≡ t.names = ap length lead.stands.entries ∙ length-entries s es t.names size few in
          let g : lead.next.place.fields ≡ f = ap (λ (p : Place). p.fields) lead.place in
          sym (from_start (Ok lead.next) (at-end ∙ pick_no _ _ (ap due lead.place ∙ rw k)) ∙ ap Ok (rw (r, e, g)))
