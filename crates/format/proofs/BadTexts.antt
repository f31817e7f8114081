-- Error 3: its place, and the row beside it. Each rule but that one gives another error, with no row. Assumes nothing.
use Rattle.std.specs.Prelude.{Option, None, Some, slice_get, Err, Ok}
use mathlib.Core.Path.{◌≡◌, refl, sym, ap, ◌∙◌, subst}
use mathlib.Core.Logic.{◌≢◌}
use Prim.Native.Nat.{ℕ, zero, suc, ◌+◌, ◌≤◌, ◌<◌}
use native.Mathlib.Omega.{arith}
use mathlib.Core.Bool.{Bool, true, false, not, ◌&&◌}
use mathlib.Core.List.{List, [], ◌∷◌}
use lib.ListN.{length, take, drop, length-drop}
use lib.Seq.{drop-drop}
use lib.Dec.{leb, ltb}
use Rattle.format.specs.declared.row.Row.{Row}
use Rattle.format.specs.declared.error.Error.{Error}
use Rattle.format.specs.declared.error.Error.TheVariants.{InvalidRow, InvalidUtf8, NotCanonical, OutputTooLong, TooDeep, TooLong, TooManyEntries, TooManyRows, Truncated, UndefinedReference, UnexpectedKey}
use Rattle.format.specs.Choice.{pick}
use Rattle.format.specs.Error.{code_of}
use Rattle.format.specs.Answer.{Answer, Failure, Rule, fail, failure, first, rule, then, unless}
use Rattle.format.specs.Kind as Kind
use Rattle.format.specs.Header.{Header, header_of}
use Rattle.format.specs.Utf8.{bad_at, utf8}
use Rattle.format.specs.Item.{is_text}
use Rattle.format.specs.Place.{due}
use Rattle.format.specs.Reading.{Form, Found, Options, State, content, ending, fixed, form_of, headed, is_content, item, item_of, item_rules, or_null, reading, reference, run, start}
use Rattle.format.specs.Rows.{content_of, item_at}
use Rattle.format.specs.Canonical.{canonical}
use Rattle.format.specs.Writing.{Progress, begin, fitted, judge, row_rules, with_item, writing}
use Rattle.format.specs.Laws.{BadItem, BadRow, Passes, RefusedReadingLaw, RefusedWritingLaw, Stops, first as at-start, next}
use Rattle.format.proofs.Tests.{cases, clash, failed-good, failed_inj, leb-true, ltb-false, none-some, order, pick_no, pick_yes, some_inj}
use Rattle.format.proofs.Headers.{size-within}
use Rattle.format.proofs.Steps.{item-step, run_end, run-failed, run-to, step_forward}
use Rattle.format.proofs.Utf8.{utf8_law}
use Rattle.format.proofs.Writes.{row-placed}

-- ---- rules and answers

-- The first rule gives the failure, or those after it do.
by_first {ℓ} : {X : Type ℓ} (r : Rule) (rs : List Rule) {f : Failure} → first (r ∷ rs) ≡ Some f
    → (r.applies ≡ true → r.gives ≡ f → X) → (r.applies ≡ false → first rs ≡ Some f → X) → X
unfolding first
by_first r rs e g h =
    cases r.applies (λ a. g a (some_inj (sym (pick_yes _ _ a) ∙ e))) (λ a. h a (sym (pick_no _ _ a) ∙ e))

no-rule {ℓ} : {X : Type ℓ} {f : Failure} → first [] ≡ Some f → X
unfolding first
no-rule e = none-some e

-- A choice that fails does so in one of its parts.
by-choice {ℓ} : {X : Type ℓ} {A : Type 0} (b : Bool) (x y : Answer A) {f : Failure} → pick b x y ≡ Err f
    → (x ≡ Err f → X) → (y ≡ Err f → X) → X
by-choice b x y e g h = cases b (λ a. g (sym (pick_yes _ _ a) ∙ e)) (λ a. h (sym (pick_no _ _ a) ∙ e))

-- A rule for a text that is not good applies.
is-bad : (a b : Bool) → a && not b ≡ true → (a ≡ true) × (b ≡ false)
is-bad true true e = clash refl (sym e)
is-bad true false e = (refl, refl)
is-bad false b e = clash e refl

-- An error that is not 3.
other : {e : Error} → code_of e ≢ 3 → e ≢ InvalidUtf8
other n q = n (ap code_of q)

-- ---- writing

-- The law of some of the rows, from the row of number k on.
pub record Refused (text : List ℕ) (k : ℕ) (rs : List Row) (f : Failure) : Type 0 where
  pub bad_text : f.error ≡ InvalidUtf8
      → (i : ℕ) × (f.row ≡ k + i) × (r : Row) × (slice_get rs i ≡ Some r) × BadRow text r f.place
  pub other : f.error ≢ InvalidUtf8 → f.row ≡ 0

module _ (text : List ℕ) (k : ℕ) (rs : List Row) {f : Failure} where
  plainly : (e : Error) (p : ℕ) → code_of e ≢ 3 → failure e p ≡ f → Refused text k rs f
  plainly e p n q = subst (Refused text k rs) q (record { bad_text = λ z. absurd (other n z); other = λ _. refl })

  plain-fail : {A : Type 0} (e : Error) (p : ℕ) → code_of e ≢ 3 → ◌≡◌ {A = Answer A} (fail e p) (Err f)
      → Refused text k rs f
  unfolding fail
  plain-fail e p n q = plainly e p n (failed_inj q)

row-refused : (text : List ℕ) (s : Progress) (r : Row) (rs : List Row) {f : Failure} → first (row_rules text s r) ≡ Some f
    → Refused text s.row (r ∷ rs) f
unfolding row_rules rule item_at is_text
row-refused text s r rs e =
    let plain = plainly text s.row (r ∷ rs) in
    let c = content_of text r in
    by_first _ _ e (λ _. plain InvalidRow _ (omega arith)) (λ fine e.
    by_first _ _ e (λ _. plain UnexpectedKey _ (omega arith)) (λ _ e.
    by_first _ _ e (λ _. plain TooDeep _ (omega arith)) (λ _ e.
    by_first _ _ e
    (λ a q. subst (Refused text s.row (r ∷ rs)) q (record {
      bad_text = λ _. let (t, u) = is-bad (leb Kind.string r.kind) (utf8 c) a in (
        0,
        omega arith,
        r,
        refl,
        record {
          kind = leb-true Kind.string r.kind t;
          placed = row-placed fine;
          n = bad_at c;
          stops = (utf8_law c).number u;
          there = refl;
        },
      );
      other = λ z. absurd (z refl);
    }))
    (λ _ e.
    by_first _ _ e (λ _. plain TooManyEntries _ (omega arith)) (λ _ e. no-rule e)))))

-- The first row is refused, or it is taken and one after it is.
judge-refused : (text : List ℕ) (s : Progress) (rs : List Row) {f : Failure} → judge text s rs ≡ Err f
    → Refused text s.row rs f
unfolding judge then unless with_item
judge-refused text s [] e =
    by-choice (due s.place) _ _ e (λ q. plain-fail text s.row [] Truncated s.row (omega arith) q)
    (λ q. failed-good (sym q))
judge-refused text s (r ∷ rs) {f} e =
    go (first (row_rules text s r)) refl e (λ q. judge-refused text (with_item s (item_at text r)) rs q)
  where
    later : Refused text (suc s.row) rs f → Refused text s.row (r ∷ rs) f
    later h = record {
      bad_text = λ z. let (i, row, r, found, b) = h.bad_text z in (suc i, omega (arith, row), r, found, b);
      other = h.other;
    }

    go : (q : Option Failure) → first (row_rules text s r) ≡ q
        → then (unless q (with_item s (item_at text r))) (λ t. judge text t rs) ≡ Err f
        → (judge text (with_item s (item_at text r)) rs ≡ Err f → Refused text (suc s.row) rs f)
        → Refused text s.row (r ∷ rs) f
    go (Some g) q e rest = row-refused text s r rs (q ∙ ap Some (failed_inj e))
    go None q e rest = later (rest e)

pub refused_writing_law : (rs : List Row) (text : List ℕ) (capacity : ℕ) {f : Failure} → writing rs text capacity ≡ Err f
    → RefusedWritingLaw rs text f
unfolding writing then fitted begin
refused_writing_law rs text capacity {f} e =
    let plain : (e : Error) → code_of e ≢ 3 → ◌≡◌ {A = Answer (List ℕ)} (fail e 0) (Err f) → Refused text 0 rs f =
    λ e n. plain-fail text 0 rs e 0 n in
    whole
    (by-choice _ _ _ e (plain TooManyRows (omega arith)) (λ e.
    by-choice _ _ _ e (plain TooLong (omega arith)) (λ e. go (judge text begin rs) refl e)))
  where
    go : (r : Answer Progress) → judge text begin rs ≡ r → then r (λ s. fitted capacity (canonical s.items)) ≡ Err f
        → Refused text 0 rs f
    go (Err g) q e = judge-refused text begin rs (q ∙ ap Err (failed_inj e))
    go (Ok s) q e =
        by-choice _ _ _ e (λ z. plain-fail text 0 rs OutputTooLong 0 (omega arith) z) (λ z. failed-good (sym z))

    whole : Refused text 0 rs f → RefusedWritingLaw rs text f
    whole h = record {
      bad_text = λ z. let (i, row, r, found, b) = h.bad_text z in
          let e : f.row ≡ i = omega (arith, row) in (r, rw e found, b);
      other = h.other;
    }

-- ---- reading

-- Content that is whole and not good.
record BadContent (g : Form) (p : ℕ) (rest : List ℕ) (c : List ℕ) : Type 0 where
  kind : ℕ
  form : g ≡ content kind
  text : Kind.string ≤ kind
  whole : p ≤ length rest
  content-is : c ≡ take p rest
  bad : utf8 c ≡ false

bad-content : (g : Form) (p at : ℕ) (rest : List ℕ) (es : List Found)
    → is_content g && ltb (length rest) p ≡ false
    → is_content g && is_text (or_null (item_of g p at rest es)).item
    && not (utf8 (or_null (item_of g p at rest es)).item.content) ≡ true
    → BadContent g p rest (or_null (item_of g p at rest es)).item.content
unfolding is_content item_of or_null is_text
bad-content (fixed k n) p at rest es w e = clash e refl
bad-content (content k) p at rest es w e =
    let (t, u) = is-bad (leb Kind.string k) (utf8 (take p rest)) e in
    record {
      kind = k;
      form = refl;
      text = leb-true Kind.string k t;
      whole = ltb-false (length rest) p w;
      content-is = refl;
      bad = u;
    }
bad-content reference p at rest es w e = clash e refl

unless-failed : {A : Type 0} (a : A) {f : Failure} (q : Option Failure) → unless q a ≡ Err f → q ≡ Some f
unfolding unless
unless-failed a None e = failed-good (sym e)
unless-failed a (Some g) e = ap Some (failed_inj e)

-- Where bad content is in the whole bytes.
located : (o : Options) (bs : List ℕ) (s : State) → Passes o bs s → (h : Header) → header_of (drop s.at bs) ≡ Some h
    → {c : List ℕ} → BadContent (form_of h) h.payload (drop h.size (drop s.at bs)) c
    → BadItem o bs (s.at + h.size + bad_at c)
located o bs s passed h q {c} b =
    let e = drop-drop h.size s.at bs in
    let size = size-within (drop s.at bs) h q in
    let long = length-drop s.at bs in
    let rest = length-drop h.size (drop s.at bs) in
    record {
      before = s;
      passed = passed;
      h = h;
      headed = q;
      kind = b.kind;
      form = b.form;
      text = b.text;
      start = s.at + h.size;
      after_header = refl;
      whole = omega (arith, b.whole, size.0, size.1, long, rest);
      n = bad_at c;
      stops = let k : Stops c (bad_at c) = (utf8_law c).number b.bad in
          subst (λ (x : List ℕ). Stops x (bad_at c)) (b.content-is ∙ ap (take h.payload) e) k;
      there = refl;
    }

module _ (o : Options) (bs : List ℕ) {f : Failure} where
  plain-item : (e : Error) (p : ℕ) → code_of e ≢ 3 → failure e p ≡ f → RefusedReadingLaw o bs f
  plain-item e p n q = subst (RefusedReadingLaw o bs) q (record { bad_text = λ z. absurd (other n z); row = refl })

  plain_end : {A : Type 0} (e : Error) (p : ℕ) → code_of e ≢ 3 → ◌≡◌ {A = Answer A} (fail e p) (Err f)
      → RefusedReadingLaw o bs f
  unfolding fail
  plain_end e p n q = plain-item e p n (failed_inj q)

  headed-refused : (s : State) → Passes o bs s → (r : Option Header) → header_of (drop s.at bs) ≡ r
      → headed o s r (drop s.at bs) ≡ Err f → RefusedReadingLaw o bs f
  unfolding headed item_rules rule
  headed-refused s passed None q e = plain_end Truncated s.at (omega arith) e
  headed-refused s passed (Some h) q e =
      by_first _ _ (unless-failed _ _ e) (λ _. plain-item NotCanonical _ (omega arith)) (λ _ e.
      by_first _ _ e (λ _. plain-item UndefinedReference _ (omega arith)) (λ _ e.
      by_first _ _ e (λ _. plain-item UnexpectedKey _ (omega arith)) (λ _ e.
      by_first _ _ e (λ _. plain-item TooDeep _ (omega arith)) (λ _ e.
      by_first _ _ e (λ _. plain-item Truncated _ (omega arith)) (λ w e.
      by_first _ _ e
      (λ a z. subst (RefusedReadingLaw o bs) z (record {
        bad_text = λ _.
            located o bs s passed h q (bad-content (form_of h) h.payload (s.at + h.size) _ s.entries w a);
        row = refl;
      }))
      (λ _ e.
      by_first _ _ e (λ _. plain-item NotCanonical _ (omega arith)) (λ _ e.
      by_first _ _ e (λ _. plain-item TooManyEntries _ (omega arith)) (λ _ e.
      by_first _ _ e (λ _. plain-item TooManyRows _ (omega arith)) (λ _ e. no-rule e)))))))))

  end_refused : (s : State) → length bs ≤ s.at → run o s 0 (drop s.at bs) ≡ Err f → RefusedReadingLaw o bs f
  unfolding ending
  end_refused s l e =
      by-choice (due s.place) _ _ (sym (run_end o s bs l) ∙ e)
      (λ q. plain_end Truncated s.at (omega arith) q) (λ q. failed-good (sym q))

  -- Item by item, over n bytes at most: one is refused, or it is good and what comes after it is refused.
  run-refused : (n : ℕ) (s : State) → length bs ≤ s.at + n → Passes o bs s → run o s 0 (drop s.at bs) ≡ Err f
      → RefusedReadingLaw o bs f
  unfolding item
  run-refused zero s l passed e = end_refused s (omega arith) e
  run-refused (suc n) s l passed e =
      order (length bs) s.at (λ m. end_refused s m e)
      (λ m. go (item o s (drop s.at bs)) refl m (λ t k passed q. run-refused n t k passed q))
    where
      go : (r : Answer State) → item o s (drop s.at bs) ≡ r → s.at < length bs
          → ((t : State) → length bs ≤ t.at + n → Passes o bs t → run o t 0 (drop t.at bs) ≡ Err f
          → RefusedReadingLaw o bs f)
          → RefusedReadingLaw o bs f
      go (Err g) q m rest =
          headed-refused s passed (header_of (drop s.at bs)) refl (q ∙ sym (run-failed o s bs m q) ∙ e)
      go (Ok t) q m rest =
          rest t (omega (arith, step_forward (item-step (drop s.at bs) q))) (next passed q) (sym (run-to o s bs q) ∙ e)

pub refused_reading_law : (o : Options) (bs : List ℕ) {f : Failure} → reading o bs ≡ Err f → RefusedReadingLaw o bs f
unfolding reading start
refused_reading_law o bs e =
    by-choice _ _ _ e (λ q. plain_end o bs TooLong 0 (omega arith) q)
    (λ q. run-refused o bs (length bs) start (omega arith) at-start q)
