-- The answer of writing, case by case, and what it leaves in the buffer. Assumes nothing.
use Rattle.std.specs.Prelude.{Err, Ok}
use mathlib.Core.Path.{◌≡◌, refl, ap, ◌∙◌}
use mathlib.Core.Bool.{Bool, true, false, ◌||◌}
use mathlib.Core.List.{List, [], append-nil}
use Prim.Native.Nat.{ℕ, ◌≤◌, ◌<◌, min}
use native.Mathlib.Omega.{arith}
use lib.Dec.{eqb, ltb}
use lib.ListN.{length}
use Rattle.format.specs.declared.row.Row.{Row}
use Rattle.format.specs.declared.error.Error.{Error}
use Rattle.format.specs.declared.failure.Failure.{Failure}
use Rattle.format.specs.declared.error.Error.TheVariants.{OutputTooLong, TooLong, TooManyRows, Truncated}
use Rattle.format.specs.Choice.{pick}
use Rattle.format.specs.Limits.{max_entries, max_bytes, max_rows}
use Rattle.format.specs.Answer.{Answer, counted, fail, failure, stored, then}
use Rattle.format.specs.Names.{names_from}
use Rattle.format.specs.Place.{due}
use Rattle.format.specs.Canonical.{canonical}
use Rattle.format.specs.Rows.{items_at}
use Rattle.format.specs.Writing.{begin, fitted, judge, writing}
use Rattle.format.proofs.Tests.{leb-true, ltb-false, ltb_no, ltb_yes, pick_no, pick_yes}
use Rattle.format.proofs.Fitting.{fitted-fits, fitted-over}
use Rattle.rows.specs.declared.state.State.{State}
use Rattle.encoder.specs.Plan.{Measured}
use Rattle.writer.specs.Putting.{Putting}
use Rattle.writer.specs.Verdict.{Passed, Verdict, passed, refused}
use Rattle.rows.proofs.StackLaws.{opened-length}
use Rattle.symbols.proofs.ChainLaws.{length_names}
use Rattle.rows.specs.Plan.{plan_size}
use Rattle.format.specs.Written.{Writes}

-- ---- writing, case by case

-- an item is still due after the rows
abbrev pub due_in : State → Bool
due_in s = eqb s.keyed 1 || ltb 0 s.depth

module _ {text plan : List ℕ} {rs : List Row} {s : State} (g : Passed text plan rs s) where
  passed-due : due g.after.progress.place ≡ due_in s
  unfolding due
  passed-due = rw (g.after.stands.key, g.after.stands.opened, opened-length g.st s.depth s.left)

  passed-ends : judge text begin rs ≡ pick (due_in s) (fail Truncated s.row) (Ok g.after.progress)
  unfolding judge
  passed-ends = rw (append-nil rs) at (g.after.run []) ∙ rw (passed-due, g.after.row)

  measured : Measured plan_size g.names plan (items_at text rs) s.size
  measured = rw g.after.items at g.after.measured

  few-names : length (names_from [] (items_at text rs)) ≤ max_entries
  few-names = omega (arith, ap length measured.names, length_names g.names, g.names.chained.table.few)

module _ (rs : List Row) (text : List ℕ) (capacity : ℕ) where
  pub writing-rows : max_rows < length rs → writing rs text capacity ≡ fail TooManyRows 0
  unfolding writing
  writing-rows l = pick_yes _ _ (ltb_yes l)

  pub writing-text : length rs ≤ max_rows → max_bytes < length text → writing rs text capacity ≡ fail TooLong 0
  unfolding writing
  writing-text l m = pick_no _ _ (ltb_no l) ∙ pick_yes _ _ (ltb_yes m)

  module _ (few : length rs ≤ max_rows) (short : length text ≤ max_bytes) where
    writing_judged : writing rs text capacity ≡ then (judge text begin rs) (λ s. fitted capacity (canonical s.items))
    unfolding writing
    writing_judged = pick_no _ _ (ltb_no few) ∙ pick_no _ _ (ltb_no short)

    pub writing-refused : (f : Failure) → judge text begin rs ≡ Err f → writing rs text capacity ≡ Err f
    unfolding then
    writing-refused f e = writing_judged ∙ rw e

    module _ {plan : List ℕ} {s : State} (g : Passed text plan rs s) where
      pub writing-due : due_in s ≡ true → writing rs text capacity ≡ fail Truncated s.row
      unfolding fail
      writing-due d = writing-refused (failure Truncated s.row) (passed-ends g ∙ pick_yes _ _ d)

      writing-fitted : due_in s ≡ false → writing rs text capacity ≡ fitted capacity (canonical (items_at text rs))
      unfolding then
      writing-fitted d = writing_judged ∙ rw (passed-ends g ∙ pick_no _ _ d, g.after.items)

-- ---- what `write` promises

-- What judging comes to, by its answer.
pub passed_of : {text plan : List ℕ} {rs : List Row} {s : State} → Verdict text plan rs (Ok s) → Passed text plan rs s
passed_of (passed g) = g

pub refused_of : {text plan : List ℕ} {rs : List Row} {f : Failure} → Verdict text plan rs (Err f) → judge text begin rs ≡ Err f
refused_of (refused e) = e

-- A failure changes nothing.
pub refuses : {w : Answer (List ℕ)} (out : List ℕ) {f : Failure} → w ≡ Err f → Writes w out (Err f) out
unfolding counted then stored
refuses out e = record { answer = rw e refl; buffer = rw e refl }

pub fails : {w : Answer (List ℕ)} (out : List ℕ) (k : Error) (place : ℕ) {r : Answer ℕ} → r ≡ fail k place → w ≡ fail k place
    → Writes w out r out
unfolding fail
fails out k place q e = rw q (refuses out e)

module _ (rs : List Row) (text out : List ℕ) (few : length rs ≤ max_rows) (short : length text ≤ max_bytes) {plan : List ℕ}
    {s : State} (g : Passed text plan rs s) (whole : due_in s ≡ false) where
  size_is : s.size ≡ length (canonical (items_at text rs))
  size_is = (measured g).length_is

  over : Bool
  over = ltb (min max_bytes (length out)) s.size

  pub too_long : ltb (min max_bytes (length out)) s.size ≡ true → writing rs text (length out) ≡ fail OutputTooLong 0
  too_long l = writing-fitted rs text (length out) few short g whole
      ∙ fitted-over (length out) (canonical (items_at text rs)) (rw (← size_is) (leb-true _ _ l))

  module _ (fits : ltb (min max_bytes (length out)) s.size ≡ false) where
    within : s.size ≤ min max_bytes (length out)
    within = ltb-false _ _ fits

    -- what `put` asks
    pub putting : Putting text plan rs (length out)
    putting =
        let m = measured g in
        record {
          long = m.plan_size;
          short = λ _. short;
          fine = g.after.fine;
          planned = m.planned;
          few = few-names g;
          fits = rw (← size_is) (omega (arith, within));
        }

    -- and what it leaves
    pub writes : {new : List ℕ} → new ≡ stored out (Ok (canonical (items_at text rs)))
        → Writes (writing rs text (length out)) out (Ok s.size) new
    unfolding counted then
    writes {new} e =
        let w : writing rs text (length out) ≡ Ok (canonical (items_at text rs)) =
        writing-fitted rs text (length out) few short g whole
        ∙ fitted-fits (length out) (canonical (items_at text rs)) (rw (← size_is) within) in
        record { answer = rw (w, size_is) refl; buffer = rw w e }
