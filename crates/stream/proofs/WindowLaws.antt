-- Parts of a buffer, and what is to be done next. Assumes nothing.
use Rattle.std.proofs.Common.{◌≡◌, ℕ, zero, suc, ◌+◌, ◌-◌, ◌≤◌, Bool, true, false, ◌≢◌, List, [], ◌∷◌, length, take, drop, sym, ap, ◌∙◌, arith, length-drop, length-take-le, drop-drop}
use lib.Seq.{take-nil}
use Rattle.format.specs.Choice.{pick}
use Rattle.format.proofs.Tests.{eqb_no, eqb_yes}
use Rattle.envelope.specs.Answers.{missing_from}
use Rattle.stream.specs.declared.state.Action.TheVariants.{Read, Take, End}
use Rattle.stream.specs.State.{next_of}

-- A part of a buffer is as long as it says.
pub part_length : (start end : ℕ) (bs : List ℕ) → end ≤ length bs → length (take (end - start) (drop start bs)) ≡ end - start
part_length start end bs l = length-take-le (end - start) (drop start bs) (omega (arith, length-drop start bs))

-- The first bytes of a part are used: the rest of it.
drop-take : (k n : ℕ) (l : List ℕ) → drop k (take n l) ≡ take (n - k) (drop k l)
drop-take zero n l = let e : n ≡ n - 0 = omega arith in ap (λ (m : ℕ). take m l) e
drop-take (suc k) zero l = let e : 0 - suc k ≡ 0 = omega arith in rw e
drop-take (suc k) (suc n) [] = sym (take-nil (suc n - suc k))
drop-take (suc k) (suc n) (a ∷ l) = let e : n - k ≡ suc n - suc k = omega arith in drop-take k n l ∙ ap (λ (m : ℕ). take m (drop k l)) e

pub part_rest : (start end used : ℕ) (bs : List ℕ)
    → take (end - (start + used)) (drop (start + used) bs) ≡ drop used (take (end - start) (drop start bs))
part_rest start end used bs =
    let e : end - start - used ≡ end - (start + used) = omega arith in
    sym
    (drop-take used (end - start) (drop start bs)
    ∙ ap (λ (m : ℕ). take m (drop used (drop start bs))) e
    ∙ ap (take (end - (start + used))) (drop-drop used start bs))

-- ---- what is to be done next

module _ {ended : Bool} (bs : List ℕ) where
  pub ends : ended ≡ true → length bs ≡ 0 → End ≡ next_of ended bs
  unfolding next_of pick
  ends e z = rw (e, eqb_yes z)

  pub takes_last : ended ≡ true → length bs ≢ 0 → Take ≡ next_of ended bs
  unfolding next_of pick
  takes_last e z = rw (e, eqb_no z)

  pub takes : ended ≡ false → missing_from bs ≡ 0 → Take ≡ next_of ended bs
  unfolding next_of pick
  takes e z = rw (e, eqb_yes z)

  pub reads : ended ≡ false → missing_from bs ≢ 0 → Read ≡ next_of ended bs
  unfolding next_of pick
  reads e z = rw (e, eqb_no z)
