-- One envelope, by what opening, canonicalizing and closing answer. Assumes nothing.
use Rattle.std.specs.Prelude.{Err, Ok}
use mathlib.Core.Path.{◌≡◌, refl, sym, ap, ◌∙◌}
use Prim.Native.Nat.{ℕ, ◌+◌, ◌≤◌}
use mathlib.Core.List.{List}
use native.Mathlib.Omega.{arith}
use lib.ListN.{length, take, length-take}
use Rattle.format.specs.declared.failure.Failure.{Failure}
use Rattle.format.specs.Limits.{max_bytes}
use Rattle.format.specs.Answer.{Answer, counted, then, stored}
use Rattle.format.specs.Written.{Writes}
use Rattle.format.specs.Joining.{canonicalizing}
use Rattle.format.specs.Envelope.{closing, max_envelope, opening, overhead}
use Rattle.format.proofs.Envelopes.{closing-good, closing_enough, length-envelope}
use Rattle.format.proofs.Stored.{stored-counted, stored-failed}
use Rattle.format.proofs.Steps.{then-good}
use Rattle.envelope.specs.Answers.{bundle_in, bundle_in as bytesIn, size_in}
use Rattle.envelope.proofs.OpeningLaws.{opens_as, refuses, size_fits}
use Rattle.stream.specs.Run.{Makes}
use Rattle.stream.specs.Laws.{Takes}
use Rattle.wire.specs.Output.{Puts}
use Rattle.stream.specs.declared.state.Step.{Step}
use Rattle.tidy.specs.Tidied.{Closed, filter, step_of, tidied}

-- What a result leaves in a buffer was put there.
stored-puts : (size : ℕ) (a : Answer (List ℕ)) (old : List ℕ) {new : List ℕ} → new ≡ stored old a
    → Puts (bytesIn a) (step_of size a).written old new
unfolding stored bytesIn step_of
stored-puts size (Err f) old e = (refl, e)
stored-puts size (Ok bs) old e = (refl, e)

-- By what closing answers.
module _ (size : ℕ) (bs old : List ℕ) {new : List ℕ} where
  pub closed-failed : {f : Failure} {r : Step} → Writes (closing bs (length old)) old (Err f) new
      → r ≡ step_of 0 (Err f) → Closed size bs old r new
  unfolding step_of
  closed-failed h t =
      let f = (stored-failed old (closing bs (length old)) h.buffer (sym h.answer)).0 in
      record { step = rw f t; buffer = h.buffer }

  pub closed_done : {n : ℕ} → Writes (closing bs (length old)) old (Ok n) new
      → Closed size bs old (record { used = size; written = n; outcome = Ok tt }) new
  unfolding step_of
  closed_done h =
      let (f, l) = stored-counted old (closing bs (length old)) h.buffer (sym h.answer) in
      record { step = rw (f, l) refl; buffer = h.buffer }

module _ (k : ℕ) (bs old : List ℕ) where
  -- the envelope is refused
  pub unopened : {f : Failure} {r : Step} → Err f ≡ counted (opening bs) → r ≡ step_of 0 (Err f) → Makes filter k bs old r old
  unfolding tidied then step_of bytesIn
  unopened e t = let z = refuses bs e in record { step = rw z t; puts = rw (z, t) (refl, refl) }

  module _ {n : ℕ} (b s s' : List ℕ) (fits : length s ≡ max_bytes) (q : Ok n ≡ counted (opening bs)) (e : b ≡ bundle_in (opening bs)) where
    opened : (opening bs ≡ Ok b) × (length b ≡ n)
    opened = rw (← e) at (opens_as bs q)

    abbrev Canonicalizes : Answer ℕ → Type 0
    Canonicalizes r = Writes (canonicalizing b (length s)) s r s'

    -- the bundle is refused
    pub unreadable : {f : Failure} {r : Step} → Canonicalizes (Err f) → r ≡ step_of 0 (Err f) → Makes filter k bs old r old
    unfolding tidied then step_of bytesIn
    unreadable h t =
        let z = opened.0 in
        let f = rw fits at (stored-failed s (canonicalizing b (length s)) h.buffer (sym h.answer)).0 in
        record { step = rw (z, f) t; puts = rw (z, f, t) (refl, refl) }

    module _ (m : ℕ) (h : Canonicalizes (Ok m)) where
      canonical : (canonicalizing b max_bytes ≡ Ok (take m s')) × (length (take m s') ≡ m)
      canonical = rw fits at (stored-counted s (canonicalizing b (length s)) h.buffer (sym h.answer))

      pub canonical-length : m ≡ length (take m s')
      canonical-length = sym canonical.1

      pub canonical-fits : m ≤ length s'
      canonical-fits = omega (arith, canonical.1, length-take m s')

      pub closes : max_envelope ≤ length old → {r : Step} {new : List ℕ} → Closed (overhead + n) (take m s') old r new
          → Makes filter k bs old r new
      unfolding tidied then size_in
      closes long {r} {new} h' =
          let (z, l) = opened in
          let f = canonical.0 in
          let enough = closing_enough (take m s') (length old) long in
          let step : r ≡ step_of (overhead + n) (closing (take m s') max_envelope) = rw enough at h'.step in
          record {
            step = rw (z, f, l) step;
            puts = rw (z, f, step) (stored-puts (overhead + n) (closing (take m s') max_envelope) old
                (rw enough at h'.buffer));
          }

-- ---- the filter

tidied_used : (size : ℕ) (a : Answer (List ℕ)) → (step_of size a).used ≤ size
unfolding step_of
tidied_used size (Err f) = omega arith
tidied_used size (Ok e) = omega arith

-- What a step takes lies in the bytes.
pub inside : Takes filter
inside k bs = omega (arith, tidied_used (size_in (opening bs)) (tidied (opening bs)), size_fits bs)

tidied-good : (a : Answer (List ℕ)) {e : List ℕ} → tidied a ≡ Ok e → length e ≤ max_envelope
unfolding tidied
tidied-good a q =
    let (b, _, q₁) = then-good a (λ b. then (canonicalizing b max_bytes) (λ c. closing c max_envelope)) q in
    let (c, _, q₂) = then-good (canonicalizing b max_bytes) (λ c. closing c max_envelope) q₁ in
    let g = closing-good c max_envelope q₂ in
    omega (arith, g.1, ap length g.2 ∙ length-envelope c)

tidied-short : (a b : Answer (List ℕ)) → tidied a ≡ b → length (bytesIn b) ≤ max_envelope
unfolding bytesIn
tidied-short a (Err f) q = omega arith
tidied-short a (Ok e) q = tidied-good a q

-- No more is written than it says.
pub short : (k : ℕ) (a : Answer (List ℕ)) → length (filter.output k a) ≤ filter.most
short k a = tidied-short a (tidied a) refl
