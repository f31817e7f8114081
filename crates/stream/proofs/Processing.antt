-- What a filter makes of a whole input, envelope by envelope. Assumes nothing.
use Rattle.std.proofs.Common.{◌≡◌, ℕ, zero, suc, ◌<◌, ◌≤◌, List, [], ◌∷◌, ◌++◌, length, drop, sym, refl, ap, ◌∙◌, append_assoc, append-nil, arith, length-drop}
use Rattle.format.specs.Envelope.{opening}
use Rattle.format.proofs.Tests.{eqb_no, eqb_yes, order, pick_no, pick_yes}
use Rattle.stream.specs.State.{numbered}
use Rattle.stream.specs.Run.{Filter}
use Rattle.stream.specs.Whole.{Tally, added, processed, processed_in}
use Rattle.stream.specs.Laws.{Takes}

-- How many bytes the next envelope takes.
abbrev pub used_of : Filter → Tally → List ℕ → ℕ
used_of p t bs = (p.step (numbered t.count) (opening bs)).used

module _ (p : Filter) (inside : Takes p) where
  -- Each envelope but the last takes a byte at least, so that a bound over the number of bytes changes nothing.
  enough : (n m : ℕ) (t : Tally) (bs : List ℕ) → length bs ≤ n → length bs ≤ m → processed_in n p t bs ≡ processed_in m p t bs
  unfolding processed_in
  enough zero zero t bs l l' = refl
  enough zero (suc m) t [] l l' = refl
  enough zero (suc m) t (b ∷ bs) l l' = absurd (omega arith)
  enough (suc n) zero t [] l l' = refl
  enough (suc n) zero t (b ∷ bs) l l' = absurd (omega arith)
  enough (suc n) (suc m) t [] l l' = refl
  enough (suc n) (suc m) t (b ∷ bs) l l' =
      let used = used_of p t (b ∷ bs) in
      let rest = drop used (b ∷ bs) in
      let shorter = length-drop used (b ∷ bs) in
      order 1 used
      (λ u.
      let some = eqb_no {a = used} {b = 0} (λ z. absurd (omega (arith, u, z))) in
      pick_no _ _ some ∙ enough n m (added p t (opening (b ∷ bs))) rest (omega (arith, shorter, u))
      (omega (arith, shorter, u)) ∙ sym (pick_no _ _ some))
      (λ u. let none = eqb_yes {a = used} {b = 0} (omega (arith, u)) in pick_yes _ _ none ∙ sym (pick_yes _ _ none))

  -- The next envelope, and what comes behind it.
  pub goes_on : (t : Tally) (bs : List ℕ) → 0 < length bs → 1 ≤ used_of p t bs
      → processed p t bs ≡ processed p (added p t (opening bs)) (drop (used_of p t bs) bs)
  unfolding processed processed_in
  goes_on t [] l u = absurd (omega arith)
  goes_on t (b ∷ bs) l u =
      let rest = drop (used_of p t (b ∷ bs)) (b ∷ bs) in
      let shorter = length-drop (used_of p t (b ∷ bs)) (b ∷ bs) in
      let some = eqb_no {a = used_of p t (b ∷ bs)} {b = 0} (λ z. absurd (omega (arith, u, z))) in
      pick_no _ _ some ∙ enough (length bs) (length rest) (added p t (opening (b ∷ bs))) rest (omega (arith, shorter, u)) (omega arith)

-- The last envelope.
pub stops : (p : Filter) (t : Tally) (bs : List ℕ) → 0 < length bs → used_of p t bs ≡ 0 → processed p t bs ≡ added p t (opening bs)
unfolding processed processed_in
stops p t [] l z = absurd (omega arith)
stops p t (b ∷ bs) l z = pick_yes _ _ (eqb_yes z)

-- There is none.
pub nothing : (p : Filter) (t : Tally) → processed p t [] ≡ t
unfolding processed processed_in
nothing p t = refl

-- What was written stays, and more comes behind it.
abbrev Extends : Tally → Tally → Type 0
Extends t u = (rest : List ℕ) × (u.written ≡ t.written ++ rest)

extends_in : (p : Filter) (n : ℕ) (t : Tally) (bs : List ℕ) → Extends t (processed_in n p t bs)
unfolding processed_in
extends_in p zero t bs = ([], sym (append-nil t.written))
extends_in p (suc n) t [] = ([], sym (append-nil t.written))
extends_in p (suc n) t (b ∷ bs) =
    let used = used_of p t (b ∷ bs) in
    let out = p.output (numbered t.count) (opening (b ∷ bs)) in
    let next = added p t (opening (b ∷ bs)) in
    let last = processed_in n p next (drop used (b ∷ bs)) in
    let (rest, e) = extends_in p n next (drop used (b ∷ bs)) in
    order 1 used
    (λ u.
    let some = eqb_no {a = used} {b = 0} (λ z. absurd (omega (arith, u, z))) in
    (out ++ rest, ap (λ (x : Tally). x.written) (pick_no next last some) ∙ e ∙ append_assoc t.written out rest))
    (λ u. let none = eqb_yes {a = used} {b = 0} (omega (arith, u)) in (out, ap (λ (x : Tally). x.written) (pick_yes next last none)))

pub extends : (p : Filter) (t : Tally) (bs : List ℕ) → Extends t (processed p t bs)
unfolding processed
extends p t bs = extends_in p (length bs) t bs
