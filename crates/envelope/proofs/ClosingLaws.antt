-- Closing, case by case; and the envelope as it is written: the length, the version, the bundle. Assumes nothing.
use Rattle.std.specs.Prelude.{Err, Ok}
use mathlib.Core.Path.{◌≡◌, sym, ap, ◌∙◌}
use Prim.Native.Nat.{ℕ, ◌+◌, ◌-◌, ◌≤◌, ◌<◌}
use native.Mathlib.Omega.{arith}
use mathlib.Core.List.{List, [], ◌∷◌, ◌++◌, append-nil}
use lib.ListN.{length, take, drop, set, length-drop}
use borrow.Rule.Slice.PartMut.{put_mid}
use Rattle.format.specs.declared.error.Error.TheVariants.{TooLong, OutputTooLong}
use Rattle.format.specs.declared.failure.Failure.{Failure}
use Rattle.format.specs.Choice.{pick}
use Rattle.format.specs.Limits.{max_bytes}
use Rattle.format.specs.Answer.{Answer, counted, fail, stored, then}
use Rattle.format.specs.Written.{Writes}
use Rattle.format.specs.Header.{digits}
use Rattle.format.specs.Envelope.{closing, envelope, overhead, version}
use Rattle.format.proofs.Tests.{ltb_yes, ltb_no}
use Rattle.format.proofs.Numbers.{length_digits}
use Rattle.format.proofs.Envelopes.{length-envelope}
use Rattle.wire.proofs.Wrote.{Wrote, wrote_front, byte, part_back, finish_all, tail}

module _ (bs old : List ℕ) where
  abbrev Closes : Answer ℕ → List ℕ → Type 0
  Closes r new = Writes (closing bs (length old)) old r new

  closes_failed : {r : Answer ℕ} {f : Failure} → r ≡ Err f → closing bs (length old) ≡ Err f → Closes r old
  unfolding counted then stored
  closes_failed q e = record { answer = q ∙ rw e; buffer = rw e }

  pub closes_long : {r : Answer ℕ} → r ≡ fail TooLong 0 → max_bytes < length bs → Closes r old
  unfolding closing pick fail
  closes_long q l = closes_failed q (rw (ltb_yes l))

  module _ (l : length bs ≤ max_bytes) where
    pub closes_short : {r : Answer ℕ} → r ≡ fail OutputTooLong 0 → length old < overhead + length bs → Closes r old
    unfolding closing pick fail
    closes_short q m = closes_failed q (rw (ltb_no l, ltb_yes m))

    pub closes_good : (r : ℕ) (new : List ℕ) → overhead + length bs ≤ length old → (r ≡ length (envelope bs))
        × (new ≡ envelope bs ++ drop (length (envelope bs)) old) → Closes (Ok r) new
    unfolding closing counted then stored pick
    closes_good r new m h =
        let e = ltb_no m in
        record { answer = rw (ltb_no l, e) (ap Ok h.0); buffer = rw (ltb_no l, e) h.1 }

-- The length was written, and the version is put behind it.
module _ (bs old l : List ℕ) (el : l ≡ digits 2 (1 + length bs) ++ drop 2 old) (capacity : overhead + length bs ≤ length old) where
  abbrev l' : List ℕ
  l' = set l 2 version

  pub led : Wrote (envelope bs) old l' 3 bs
  unfolding envelope
  led =
      let d = length_digits 2 (1 + length bs) in
      let w = wrote_front (digits 2 (1 + length bs)) (version ∷ bs) old l 2 (sym d) (rw d el) (omega arith) in
      byte w (omega (arith, w.long))

  pub bundle-fits : length bs ≤ length (take (length l' - 3) (drop 3 l'))
  bundle-fits = rw (tail 3 l', length-drop 3 l') (omega (arith, led.long))

  module _ (m : ℕ) (ys : List ℕ) (em : m ≡ length bs) (ey : ys ≡ bs ++ drop (length bs) (take (length l' - 3) (drop 3 l'))) where
    pub wrote : Wrote (envelope bs) old (put_mid 3 (length l' - 3) l' ys) (3 + m) []
    wrote = part_back bs ys m led (sym (append-nil bs)) (omega (arith, led.long)) (rw (length-envelope bs) capacity) em ey

    pub closes : length bs ≤ max_bytes → Writes (closing bs (length old)) old (Ok (3 + m)) (put_mid 3 (length l' - 3) l' ys)
    closes l = closes_good bs old l _ _ capacity (finish_all wrote (omega arith))
