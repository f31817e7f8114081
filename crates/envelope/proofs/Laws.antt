-- An envelope whose bytes come in pieces. Assumes nothing.
use Rattle.std.specs.Prelude.{Ok}
use mathlib.Core.Path.{◌≡◌, refl, sym, ap, ◌∙◌}
use Prim.Native.Nat.{ℕ, ◌+◌, ◌-◌, ◌≤◌, ◌<◌}
use native.Mathlib.Omega.{arith}
use mathlib.Core.List.{List, [], ◌∷◌, ◌++◌}
use lib.ListN.{length, drop, get_or, length-append, length-drop, get_or-append}
use lib.Seq.{take-append-le, drop-append-le}
use Rattle.format.specs.declared.error.Error.TheVariants.{InvalidEnvelope}
use Rattle.format.specs.Limits.{max_bytes}
use Rattle.format.specs.Answer.{fail}
use Rattle.format.specs.Envelope.{max_envelope, opening, overhead, version}
use Rattle.format.proofs.Tests.{ltb_yes, ltb_no, pick_yes, pick_no, order, equal}
use Rattle.envelope.specs.Answers.{length_field, missing_from}
use Rattle.envelope.specs.Laws.{InPieces}
use Rattle.envelope.proofs.OpeningLaws.{no_length, counts-nothing, too_long, too_few, other-version, opened}

-- The length stands in the first two bytes, whatever comes after them.
pub field_stays : (bs more : List ℕ) → 2 ≤ length bs → length_field (bs ++ more) ≡ length_field bs
unfolding length_field
field_stays [] more l = absurd (omega arith)
field_stays (a ∷ []) more l = absurd (omega arith)
field_stays (a ∷ b ∷ bs) more l = refl

module _ (bs : List ℕ) where
  pub missing_length : length bs < 2 → missing_from bs ≡ 2 - length bs
  unfolding missing_from
  missing_length l = pick_yes _ _ (ltb_yes l)

  pub missing_nothing : 2 ≤ length bs → 1 + max_bytes < length_field bs → missing_from bs ≡ 0
  unfolding missing_from
  missing_nothing l m = pick_no _ _ (ltb_no l) ∙ pick_yes _ _ (ltb_yes m)

  pub missing_rest : 2 ≤ length bs → length_field bs ≤ 1 + max_bytes → missing_from bs ≡ (2 + length_field bs) - length bs
  unfolding missing_from
  missing_rest l m = pick_no _ _ (ltb_no l) ∙ pick_no _ _ (ltb_no m)

  -- Fewer bytes came than are missing.
  cut_short : (more : List ℕ) → length more < missing_from bs → opening (bs ++ more) ≡ fail InvalidEnvelope 0
  cut_short more f =
      let a = length-append bs more in
      let k = length (bs ++ more) in
      order 2 (length bs)
      (λ l. order (length_field bs) (1 + max_bytes)
      (λ m.
      let e = missing_rest l m in
      let q = field_stays bs more l in
      too_few (bs ++ more) (omega arith) (omega arith) (omega arith) (omega arith))
      (λ m. let e = missing_nothing l m in absurd (omega arith)))
      (λ l. let e = missing_length l in no_length (bs ++ more) (omega arith))

  -- The longest envelope is all there.
  all_there : max_envelope ≤ length bs → missing_from bs ≡ 0
  all_there l = order (length_field bs) (1 + max_bytes) (λ m. let e = missing_rest (omega arith) m in omega arith)
      (missing_nothing (omega arith))

  module _ (more : List ℕ) (l : 2 ≤ length bs) where
    abbrev n : ℕ
    n = length_field bs

    -- The whole envelope is there.
    whole_stays : 1 ≤ n → n ≤ 1 + max_bytes → 2 + n ≤ length bs → opening (bs ++ more) ≡ opening bs
    whole_stays p m f =
        let a = length-append bs more in
        let q = field_stays bs more l in
        let v : get_or (bs ++ more) 2 0 ≡ get_or bs 2 0 = get_or-append bs more 0 2 (omega arith) in
        equal (get_or bs 2 0) version
        (λ e.
        opened (bs ++ more) (omega arith) (omega arith) (omega arith) (omega arith) (v ∙ e)
        ∙ ap Ok (rw (q, drop-append-le overhead bs more (omega arith))
        (take-append-le (n - 1) (drop overhead bs) more (omega (arith, length-drop overhead bs))))
        ∙ sym (opened bs l p m f e))
        (λ e. other-version (bs ++ more) (omega arith) (omega arith) (omega arith) (omega arith) (λ z. e (sym v ∙ z))
        ∙ sym (other-version bs l p m f e))

    stays : missing_from bs ≡ 0 → opening (bs ++ more) ≡ opening bs
    stays z =
        let a = length-append bs more in
        let q = field_stays bs more l in
        order 1 n
        (λ p. order n (1 + max_bytes)
        (λ m. let e = missing_rest l m in whole_stays p m (omega arith))
        (λ m. too_long (bs ++ more) (omega arith) (omega arith) (omega arith) ∙ sym (too_long bs l p m)))
        (λ p. counts-nothing (bs ++ more) (omega arith) (omega arith) ∙ sym (counts-nothing bs l p))

pub in_pieces : (bs : List ℕ) → InPieces bs
in_pieces bs = record {
  settled = λ z more. order 2 (length bs) (λ l. stays bs more l z) (λ l. let e = missing_length bs l in absurd (omega arith));
  cut = cut_short bs;
  short = λ h. order max_envelope (length bs) (λ l. absurd (h (all_there bs l))) (λ l. l);
}
