-- Turn by turn, what is made of all that was read is what was handed on and waits, and what is made of the rest. Assumes nothing.
use Rattle.std.proofs.Common.{◌≡◌, ℕ, ◌-◌, ◌<◌, ◌≤◌, Bool, true, false, List, [], ◌∷◌, ◌++◌, length, take, drop, sym, refl, ap, ◌∙◌, subst, append_assoc, append-nil, arith, length-append, take-append-drop}
use lib.Seq.{drop-append-le}
use Rattle.format.specs.Answer.{Answer}
use Rattle.format.specs.Envelope.{opening}
use Rattle.format.proofs.Tests.{cases, clash, equal, ltb_no, ltb_yes, order, pick_no, pick_yes}
use Rattle.envelope.specs.Answers.{missing_from}
use Rattle.envelope.proofs.Laws.{in_pieces, missing_length}
use Rattle.stream.specs.declared.input.Window.{Window}
use Rattle.stream.specs.declared.state.Stream.{Stream}
use Rattle.stream.specs.declared.state.Action.{Action}
use Rattle.stream.specs.declared.state.Action.TheVariants.{Read, Take, End}
use Rattle.stream.specs.Window.{unread, unused}
use Rattle.stream.specs.State.{action_of, advanced, emptied, moved_on, numbered}
use Rattle.stream.specs.Run.{Does, Filter, Snapshot, Turn, Turned, beginning, came_in, no_turn, one_more, sent_in, waiting}
use Rattle.stream.specs.Whole.{Tally, added, processed, tally}
use Rattle.stream.specs.Laws.{Takes}
use Rattle.stream.proofs.WindowLaws.{ends, part_rest, reads, takes, takes_last}
use Rattle.stream.proofs.StateLaws as state
use Rattle.stream.proofs.Processing as processing

-- The bytes that are not used yet.
abbrev rest : Snapshot → List ℕ
rest x = unread x.stream.window x.input

-- What was made so far: handed on, or waiting.
abbrev made_by : Snapshot → Tally
made_by x = tally x.stream (x.sent ++ waiting x.stream x.output)

-- Whatever may still come: all that was read, and that, is processed to the same as that behind the unused bytes from here on.
abbrev pub Holds : Filter → Tally → Snapshot → Type 0
Holds p t x = (more : List ℕ) → (x.stream.window.ended ≡ true → more ≡ [])
    → processed p t (x.came ++ more) ≡ processed p (made_by x) (rest x ++ more)

pub holds_first : (p : Filter) (s : Stream) (input output : List ℕ) → Holds p (tally s []) (beginning s input output)
holds_first p s input output more e = refl

module _ (p : Filter) (t : Tally) (x y : Snapshot) (ih : Holds p t x) where
  abbrev w : Window
  w = x.stream.window

  -- Nothing waits any more: what waited was handed on.
  handed_on : (v : Window) (f d : Bool) → y.stream ≡ emptied x.stream v f d
      → y.sent ≡ x.sent ++ waiting x.stream x.output → made_by y ≡ made_by x
  handed_on v f d e q =
      ap (λ (s : Stream). tally s (y.sent ++ waiting s y.output)) e ∙ ap (tally x.stream) (append-nil y.sent ∙ q)

  -- Nothing was read or taken.
  stays : (f d : Bool) → y.stream ≡ emptied x.stream w f d → y.input ≡ x.input → y.came ≡ x.came ++ []
      → y.sent ≡ x.sent ++ waiting x.stream x.output → Holds p t y
  stays f d e i c q more last =
      let window = ap (λ (s : Stream). s.window) e in
      let came = c ∙ append-nil x.came in
      rw (came, handed_on w f d e q, window, i) (ih more (λ z. last (ap (λ (v : Window). v.ended) window ∙ z)))

  -- Something may have been read behind the unused bytes.
  pulled : (f d : Bool) → y.stream ≡ emptied x.stream y.stream.window f d → w.ended ≡ false
      → take (unused w) (rest y) ≡ rest x → y.came ≡ x.came ++ drop (unused w) (rest y)
      → y.sent ≡ x.sent ++ waiting x.stream x.output → Holds p t y
  pulled f d e going kept c q more last =
      let got = drop (unused w) (rest y) in
      let all : rest x ++ got ≡ rest y = ap (λ (l : List ℕ). l ++ got) (sym kept) ∙ take-append-drop (unused w) (rest y) in
      let together : rest x ++ (got ++ more) ≡ rest y ++ more = sym (append_assoc (rest x) got more) ∙ ap (λ (l : List ℕ). l ++ more) all in
      ap (λ (l : List ℕ). processed p t (l ++ more)) c
      ∙ ap (processed p t) (append_assoc x.came got more)
      ∙ ih (got ++ more) (λ z. clash z going)
      ∙ ap (processed p (made_by x)) together
      ∙ ap (λ (m : Tally). processed p m (rest y ++ more)) (sym (handed_on y.stream.window f d e q))

  -- An envelope was taken: one that nothing which may still come changes.
  module _ (inside : Takes p) (some : 0 < length (rest x))
      (settled : (more : List ℕ) → (w.ended ≡ true → more ≡ []) → opening (rest x ++ more) ≡ opening (rest x))
      (e : y.stream ≡ advanced x.stream (p.step (numbered x.stream.count) (opening (rest x))))
      (waits : waiting y.stream y.output ≡ waiting x.stream x.output ++ p.output
      (numbered x.stream.count) (opening (rest x)))
      (i : y.input ≡ x.input) (c : y.came ≡ x.came ++ []) (q : y.sent ≡ x.sent ++ []) where
    abbrev used : ℕ
    used = processing.used_of p (made_by x) (rest x)

    window : y.stream.window ≡ moved_on w used
    window = ap (λ (s : Stream). s.window) e

    made : made_by y ≡ added p (made_by x) (opening (rest x))
    made =
        let out = p.output (numbered x.stream.count) (opening (rest x)) in
        let all : y.sent ++ waiting y.stream y.output ≡ (x.sent ++ waiting x.stream x.output) ++ out =
        ap (λ (l : List ℕ). l ++ waiting y.stream y.output) (q ∙ append-nil x.sent)
        ∙ ap (λ (l : List ℕ). x.sent ++ l) waits
        ∙ sym (append_assoc x.sent (waiting x.stream x.output) out) in
        ap (λ (l : List ℕ). tally y.stream l) all ∙ ap (λ (s : Stream). tally s ((x.sent ++ waiting x.stream x.output) ++ out)) e

    module _ (more : List ℕ) (last : y.stream.window.ended ≡ true → more ≡ []) where
      -- where the input had ended, it still has
      ended_still : w.ended ≡ true → more ≡ []
      ended_still z =
          let moved = ap (λ (v : Window). v.ended) window in
          order 1 used
          (λ u. last (moved ∙ ap (λ (v : Window). v.ended) (state.goes_on w (λ n. absurd (omega (arith, n, u)))) ∙ z))
          (λ u. last (moved ∙ ap (λ (v : Window). v.ended) (state.stops w (omega (arith, u)))))

      so_far : processed p t (y.came ++ more) ≡ processed p (made_by x) (rest x ++ more)
      so_far = rw (c ∙ append-nil x.came) (ih more ended_still)

      more_bytes : 0 < length (rest x ++ more)
      more_bytes = omega (arith, some, length-append (rest x) more)

      same-opening : opening (rest x ++ more) ≡ opening (rest x)
      same-opening = settled more ended_still

      same_used : processing.used_of p (made_by x) (rest x ++ more) ≡ used
      same_used = ap (λ (a : Answer (List ℕ)). (p.step (numbered x.stream.count) a).used) same-opening

      -- it is followed by others
      followed : 1 ≤ used → processed p (made_by x) (rest x ++ more) ≡ processed p (made_by y) (rest y ++ more)
      followed u =
          let next = processing.goes_on p inside (made_by x) (rest x ++ more) more_bytes (omega (arith, same_used, u)) in
          let k = numbered x.stream.count in
          let alike = ap (λ (a : Answer (List ℕ)). processed p (added p (made_by x) a)
          (drop (p.step k a).used (rest x ++ more))) same-opening in
          let moved = state.goes_on w {used = used} (λ n. absurd (omega (arith, n, u))) in
          let behind : rest y ≡ drop used (rest x) = rw (window, moved, i) (part_rest w.start w.end used x.input) in
          let left = drop-append-le used (rest x) more (inside k (rest x)) ∙ ap (λ (l : List ℕ). l ++ more) (sym behind) in
          next
          ∙ alike
          ∙ ap (processed p (added p (made_by x) (opening (rest x)))) left
          ∙ ap (λ (m : Tally). processed p m (rest y ++ more)) (sym made)

      -- it is the last
      stopped : used ≡ 0 → processed p (made_by x) (rest x ++ more) ≡ processed p (made_by y) (rest y ++ more)
      stopped z =
          let v = window ∙ state.stops w z in
          let none = last (ap (λ (v : Window). v.ended) v) in
          let over : w.end - w.end ≡ 0 = omega arith in
          let empty : rest y ≡ [] = rw (v, over) in
          processing.stops p (made_by x) (rest x ++ more) more_bytes (same_used ∙ z)
          ∙ ap (added p (made_by x)) same-opening
          ∙ sym made
          ∙ sym (rw (empty, none) (processing.nothing p (made_by y)))

    taken : Holds p t y
    taken more last = so_far more last ∙ order 1 used (followed more last) (λ u. stopped more last (omega (arith, u)))

-- ---- a turn, by what is to be done

empty : (l : List ℕ) → length l ≡ 0 → l ≡ []
empty [] z = refl
empty (a ∷ l) z = absurd (omega (arith, z))

-- A run that has ended and not failed has used all bytes, and nothing waits.
abbrev pub Over : Snapshot → Type 0
Over x = x.stream.done ≡ true → x.stream.failed ≡ false → (rest x ≡ []) × (x.stream.filled ≡ 0)

module _ (p : Filter) (x y : Snapshot) (h : Turn p x y) where
  abbrev bs : List ℕ
  bs = rest x

  -- what was done, by what is to be done
  abbrev Doing : Action → Type 0
  Doing a = Does p a x.stream x.input x.output y.stream y.input y.output
      × (y.came ≡ x.came ++ came_in a x.stream y.stream y.input) × (y.sent ≡ x.sent ++ sent_in p a x.stream x.output)

  does : (a : Action) → a ≡ action_of x.stream x.input → Doing a
  does a e = subst Doing (sym e) (h.turns, h.reads, h.writes)

  -- there is space for what is made of any envelope, or what waited was handed on
  abbrev Space : Type 0
  Space = p.most ≤ length x.output - x.stream.filled

  sent-none : Space → y.sent ≡ x.sent ++ sent_in p Take x.stream x.output → y.sent ≡ x.sent ++ []
  sent-none m q = q ∙ ap (λ (l : List ℕ). x.sent ++ l) (pick_no _ _ (ltb_no m))

  sent-all : length x.output - x.stream.filled < p.most → y.sent ≡ x.sent ++ sent_in p Take x.stream x.output
      → y.sent ≡ x.sent ++ waiting x.stream x.output
  sent-all m q = q ∙ ap (λ (l : List ℕ). x.sent ++ l) (pick_yes _ _ (ltb_yes m))

  -- which of four cases it is
  by-action {ℓ} : {X : Type ℓ} → (length bs ≡ 0 → Doing End → X)
      → (0 < length bs → ((more : List ℕ) → (x.stream.window.ended ≡ true → more ≡ [])
      → opening (bs ++ more) ≡ opening bs) → Doing Take → X)
      → (x.stream.window.ended ≡ false → Doing Read → X) → X
  by-action end take read =
      cases x.stream.window.ended
      (λ e. equal (length bs) 0
      (λ z. end z (does End (ends bs e z)))
      (λ z.
      let some : 0 < length bs = order 1 (length bs) (λ l. l) (λ l. absurd (z (omega (arith, l)))) in
      take some (λ more last. ap opening (ap (λ (l : List ℕ). bs ++ l) (last e) ∙ append-nil bs)) (does Take (takes_last bs e z))))
      (λ e. equal (missing_from bs) 0
      (λ z.
      let some : 0 < length bs = order 1 (length bs) (λ l. l) (λ l. absurd (omega (arith, z, missing_length bs (omega (arith, l))))) in
      take some (λ more last. (in_pieces bs).settled z more) (does Take (takes bs e z)))
      (λ z. read e (does Read (reads bs e z))))

  pub turn_holds : Takes p → (t : Tally) → Holds p t x → Holds p t y
  turn_holds inside t ih =
      by-action
      (λ z (d, c, q). stays p t x y ih y.stream.failed true d.0.0 d.2 c q)
      (λ some settled (d, c, q). order p.most (length x.output - x.stream.filled)
      (λ m. taken p t x y ih inside some settled (d.0.taken m) (d.0.waits m) d.1 c (sent-none m q))
      (λ m. stays p t x y ih y.stream.failed y.stream.failed (d.0.flushed m).0.0 d.1 c (sent-all m q)))
      (λ e (d, c, q). pulled p t x y ih y.stream.failed y.stream.failed d.0.state e d.0.pulls.kept c q)

  pub turn_over : Over y
  turn_over done fine =
      let going = h.going in
      by-action
      (λ z (d, c, q).
      let window = ap (λ (s : Stream). s.window) d.0.0 in
      (rw (window, d.2) (empty bs z), ap (λ (s : Stream). s.filled) d.0.0))
      (λ some settled (d, c, q). order p.most (length x.output - x.stream.filled)
      (λ m. clash done (ap (λ (s : Stream). s.done) (d.0.taken m) ∙ going))
      (λ m. clash done (ap (λ (s : Stream). s.done) (d.0.flushed m).0.0 ∙ fine)))
      (λ e (d, c, q). clash done (ap (λ (s : Stream). s.done) d.0.state ∙ fine))

-- ---- turn after turn

module _ (p : Filter) where
  pub turned_holds : Takes p → (t : Tally) {n : ℕ} {x y : Snapshot} → Turned p n x y → Holds p t x → Holds p t y
  turned_holds inside t no_turn h = h
  turned_holds inside t (one_more {y = y} {z} ts turn) h = turn_holds p y z turn inside t (turned_holds inside t ts h)

  pub turned-over : {n : ℕ} {x y : Snapshot} → Turned p n x y → Over x → Over y
  turned-over no_turn h = h
  turned-over (one_more {y = y} {z} ts turn) h = turn_over p y z turn
