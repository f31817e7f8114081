-- Opening, case by case. Assumes nothing.
use Rattle.std.specs.Prelude.{Err, Ok}
use mathlib.Core.Path.{◌≡◌, ap, refl, sym, subst, ◌∙◌}
use mathlib.Core.Logic.{◌≢◌}
use Prim.Native.Nat.{ℕ, ◌+◌, ◌-◌, ◌*◌, ◌≤◌, ◌<◌}
use native.Mathlib.Omega.{arith}
use mathlib.Core.List.{List, [], ◌∷◌}
use lib.ListN.{length, take, drop, get_or, length-drop, length-take}
use lib.Seq.{length-take-le}
use Rattle.format.specs.declared.error.Error.{Error}
use Rattle.format.specs.declared.failure.Failure.{Failure}
use Rattle.format.specs.declared.error.Error.TheVariants.{InvalidEnvelope, UnsupportedVersion}
use Rattle.format.specs.Choice.{pick}
use Rattle.format.specs.Limits.{max_bytes}
use Rattle.format.specs.Answer.{Answer, counted, fail, then}
use Rattle.format.specs.Header.{big_endian}
use Rattle.format.specs.Envelope.{opening, overhead, version}
use Rattle.format.proofs.Stored.{stored-failed}
use Rattle.format.proofs.Tests.{failed-good, good_inj, ltb_yes, ltb_no, eqb_yes, eqb_no, order, equal}
use Rattle.envelope.specs.Answers.{bundle_in, length_field, size_in}

pub length_field_lem : (bs : List ℕ) → 2 ≤ length bs → get_or bs 0 0 * 256 + get_or bs 1 0 ≡ length_field bs
unfolding length_field big_endian
length_field_lem [] l = absurd (omega arith)
length_field_lem (a ∷ []) l = absurd (omega arith)
length_field_lem (a ∷ b ∷ bs) l = omega arith

module _ (bs : List ℕ) where
  pub no_length : length bs < 2 → opening bs ≡ fail InvalidEnvelope 0
  unfolding opening pick
  no_length l = rw (ltb_yes l)

  module _ (l : 2 ≤ length bs) where
    pub counts-nothing : length_field bs < 1 → opening bs ≡ fail InvalidEnvelope 0
    unfolding opening length_field pick
    counts-nothing z = rw (ltb_no l, ltb_yes z)

    module _ (p : 1 ≤ length_field bs) where
      pub too_long : 1 + max_bytes < length_field bs → opening bs ≡ fail InvalidEnvelope 0
      unfolding opening length_field pick
      too_long m = rw (ltb_no l, ltb_no p, ltb_yes m)

      module _ (m : length_field bs ≤ 1 + max_bytes) where
        pub too_few : length bs < 2 + length_field bs → opening bs ≡ fail InvalidEnvelope 0
        unfolding opening length_field pick
        too_few f = rw (ltb_no l, ltb_no p, ltb_no m, ltb_yes f)

        module _ (f : 2 + length_field bs ≤ length bs) where
          pub other-version : get_or bs 2 0 ≢ version → opening bs ≡ fail UnsupportedVersion 0
          unfolding opening length_field pick
          other-version v = rw (ltb_no l, ltb_no p, ltb_no m, ltb_no f, eqb_no v)

          pub opened : get_or bs 2 0 ≡ version → opening bs ≡ Ok (take (length_field bs - 1) (drop overhead bs))
          unfolding opening length_field pick
          opened v = rw (ltb_no l, ltb_no p, ltb_no m, ltb_no f, eqb_yes v)

-- What holds of both errors, and of each part that lies in the bytes, holds of opening them.
pub opening-cases {ℓ} : (P : Answer (List ℕ) → Type ℓ) (bs : List ℕ) → P (fail InvalidEnvelope 0)
    → P (fail UnsupportedVersion 0) → ((n : ℕ) → overhead + n ≤ length bs → P (Ok (take n (drop overhead bs))))
    → P (opening bs)
opening-cases P bs length-bad version-bad fine =
    let n = length_field bs in
    order 2 (length bs)
    (λ l. order 1 n
    (λ p. order n (1 + max_bytes)
    (λ m. order (2 + n) (length bs)
    (λ f. equal (get_or bs 2 0) version (λ v. subst P (sym (opened bs l p m f v)) (fine (n - 1) (omega arith)))
    (λ v. subst P (sym (other-version bs l p m f v)) version-bad))
    (λ f. subst P (sym (too_few bs l p m f)) length-bad))
    (λ m. subst P (sym (too_long bs l p m)) length-bad))
    (λ p. subst P (sym (counts-nothing bs l p)) length-bad))
    (λ l. subst P (sym (no_length bs l)) length-bad)

-- The bundle of an envelope that opens is a part of the bytes, as long as is answered.
pub opens : (bs : List ℕ) {n : ℕ} → Ok n ≡ counted (opening bs) → (overhead + n ≤ length bs)
    × (opening bs ≡ Ok (take n (drop overhead bs)))
unfolding counted then fail
opens bs {n} =
    opening-cases (λ (a : Answer (List ℕ)). Ok n ≡ counted a → (overhead + n ≤ length bs) × (a ≡ Ok (take n (drop overhead bs)))) bs
    (λ e. failed-good (sym e)) (λ e. failed-good (sym e))
    (λ m l e.
    let k : n ≡ m = good_inj e ∙ length-take-le m (drop overhead bs) (omega (arith, length-drop overhead bs)) in
    (omega arith, ap (λ (i : ℕ). Ok (take i (drop overhead bs))) (sym k)))

pub opens_as : (bs : List ℕ) {n : ℕ} → Ok n ≡ counted (opening bs) → (opening bs ≡ Ok (bundle_in (opening bs)))
    × (length (bundle_in (opening bs)) ≡ n)
unfolding counted then bundle_in
opens_as bs e = let q = (opens bs e).1 in
    (q ∙ ap Ok (sym (ap bundle_in q)), ap (λ (a : Answer (List ℕ)). length (bundle_in a)) q ∙ sym (good_inj (e ∙ ap counted q)))

-- Why it does not open is answered.
pub refuses : (bs : List ℕ) {f : Failure} → Err f ≡ counted (opening bs) → opening bs ≡ Err f
refuses bs e = (stored-failed {A = ℕ} [] (opening bs) refl (sym e)).0

pub counted-length : (bs : List ℕ) (n : ℕ) → overhead + n ≤ length bs → opening bs ≡ Ok (take n (drop overhead bs))
    → Ok n ≡ counted (opening bs)
unfolding counted then
counted-length bs n l e = rw e (ap Ok (sym (length-take-le n (drop overhead bs) (omega (arith, length-drop overhead bs)))))

-- Where it does not open, there is no bundle,
pub opens_nothing : (bs : List ℕ) {f : Failure} → Err f ≡ counted (opening bs) → bundle_in (opening bs) ≡ []
unfolding counted then fail bundle_in
opens_nothing bs {f} =
    opening-cases (λ (a : Answer (List ℕ)). Err f ≡ counted a → bundle_in a ≡ []) bs (λ e. refl) (λ e. refl) (λ n l e. failed-good e)

-- and the error is answered.
pub fails : (bs : List ℕ) (e : Error) → opening bs ≡ fail e 0 → fail e 0 ≡ counted (opening bs)
unfolding counted then fail
fails bs e q = rw q

-- An envelope lies in the bytes.
pub size_fits : (bs : List ℕ) → size_in (opening bs) ≤ length bs
unfolding size_in fail
size_fits bs = opening-cases (λ (a : Answer (List ℕ)). size_in a ≤ length bs) bs (omega arith) (omega arith)
    (λ n l. omega (arith, length-take n (drop overhead bs)))
