-- One envelope, by what opening answers. Assumes nothing.
use Rattle.std.specs.Prelude.{Err, Ok}
use mathlib.Core.Path.{◌≡◌, refl, ◌∙◌}
use Prim.Native.Nat.{ℕ, ◌+◌, ◌≤◌}
use mathlib.Core.List.{List, []}
use lib.ListN.{length}
use Rattle.format.specs.declared.failure.Failure.{Failure}
use Rattle.format.specs.Error.{code_of}
use Rattle.format.specs.Answer.{Answer, counted, outcome_of, then}
use Rattle.format.specs.Envelope.{opening, overhead}
use Rattle.format.specs.Reading.{counts, lenient}
use Rattle.format.proofs.Tests.{ltb_no, pick_no}
use Rattle.envelope.specs.Answers.{bundle_in, size_in}
use Rattle.envelope.proofs.OpeningLaws.{opens_as, refuses, size_fits}
use Rattle.stream.specs.Run.{Makes}
use Rattle.stream.specs.Laws.{Takes}
use Rattle.wire.specs.Output.{Puts}
use Rattle.listed.specs.declared.text.Printed.{Printed}
use Rattle.listed.specs.Text.{envelope_text, max_text, text, told_within, within}
use Rattle.listed.specs.Promises.{Prints}
use Rattle.listed.proofs.Texts.{envelope-short, text-short}
use Rattle.listing.specs.Printed.{filter, printed, reading_of, step_of}

-- The buffer has space for any text.
module _ (old : List ℕ) (long : max_text ≤ length old) where
  all_of_it : (ts : List ℕ) → within (length old) ts ≡ ts
  unfolding within
  all_of_it ts = pick_no [] ts (ltb_no long)

  all_told : (o : Answer Unit) → told_within (length old) o ≡ o
  unfolding told_within
  all_told o = pick_no (Ok tt) o (ltb_no long)

module _ (k : ℕ) (bs old : List ℕ) (long : max_text ≤ length old) {new : List ℕ} where
  -- the envelope is refused
  pub lists_error : {f : Failure} {x w : ℕ} → Err f ≡ counted (opening bs) → x ≡ code_of f.error
      → Puts (within (length old) (envelope_text k x)) w old new
      → Makes filter k bs old (record { used = 0; written = w; outcome = Err f }) new
  unfolding printed reading_of step_of size_in outcome_of then
  lists_error e q t =
      let z = refuses bs e in
      let puts = rw (q, all_of_it old long (envelope_text k _)) at t in
      record { step = rw (z, puts.0) refl; puts = rw z puts }

  pub lists_bundle : {n : ℕ} (b : List ℕ) → Ok n ≡ counted (opening bs) → b ≡ bundle_in (opening bs) → {r : Printed} → Prints k b old r new
      → Makes filter k bs old (record { used = overhead + n; written = r.written; outcome = r.outcome }) new
  unfolding printed reading_of step_of size_in then
  lists_bundle b q e t =
      let (z, l) = rw (← e) at (opens_as bs q) in
      let puts = rw (all_of_it old long (text k b)) at t.puts in
      let told = t.outcome ∙ all_told old long (outcome_of (counts lenient b)) in
      record { step = rw (z, puts.0, told, ← l) refl; puts = rw z puts }

-- ---- the filter

-- What a step takes lies in the bytes.
pub inside : Takes filter
unfolding step_of
inside k bs = size_fits bs

-- No more is printed than it says.
pub short : (k : ℕ) (a : Answer (List ℕ)) → length (filter.output k a) ≤ filter.most
unfolding printed
short k (Err f) = envelope-short k (code_of f.error)
short k (Ok bs) = text-short bs k
