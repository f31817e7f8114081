-- One row judged: which rule refuses it, and what is known after it. Assumes nothing.
use Rattle.std.specs.Prelude.{Option, None, Some, Ok, Err}
use mathlib.Core.Path.{◌≡◌, refl, ap, sym, subst, ◌∙◌}
use mathlib.Core.Logic.{◌≢◌}
use mathlib.Core.Bool.{true, false, not, ◌&&◌}
use mathlib.Core.List.{List, [], ◌∷◌, ◌++◌, append_assoc}
use Prim.Native.Nat.{ℕ, ◌+◌, ◌^◌, ◌≤◌, ◌<◌}
use native.Mathlib.Numerals.{add-one}
use native.Mathlib.Omega.{arith}
use lib.Dec.{eqb, ltb, leb}
use lib.ListN.{length, set, length-append, length-map}
use Rattle.format.specs.declared.row.Row.{Row}
use Rattle.format.specs.declared.error.Error.{Error}
use Rattle.format.specs.declared.failure.Failure.{Failure}
use Rattle.format.specs.declared.error.Error.TheVariants.{InvalidRow, InvalidUtf8, TooDeep, TooManyEntries, UnexpectedKey}
use Rattle.format.specs.Choice.{pick}
use Rattle.format.specs.Kind as Kind
use Rattle.format.specs.Answer.{Answer, fail, failure, failure_beside, rule, first, unless, then}
use Rattle.format.specs.Utf8.{bad_at, utf8}
use Rattle.format.specs.Item.{Item, is_text, is_name, is_key, is_container}
use Rattle.format.specs.Canonical.{full}
use Rattle.format.specs.Names.{noted}
use Rattle.format.specs.Place.{key_after_key, is_too_deep, moved}
use Rattle.format.specs.Rows.{content_of, item_at}
use Rattle.format.specs.Writing.{is_bad, Progress, begin, with_item, row_rules, judge}
use Rattle.format.specs.Limits.{max_depth, max_entries, max_item, max_rows}
use Rattle.rows.specs.Plan.{plan_size}
use Rattle.format.proofs.Tests.{cases, eqb_yes, eqb_no, leb_no, ltb_yes, ltb_no, and_no_left, and_no_right, pick_yes, pick_no, applied_none}
use Rattle.format.proofs.Names.{noted-plain}
use Rattle.symbols.specs.declared.names.Names.{Names}
use Rattle.symbols.proofs.ChainLaws.{length_names}
use Rattle.format.proofs.Lists.{map-append, all_append}
use Rattle.rows.specs.declared.state.State.{State}
use Rattle.rows.specs.Stack.{bottom, Stands}
use Rattle.rows.specs.Steps.{valued, keyed_by, named_by, opened_by}
use Rattle.encoder.specs.Plan.{Measured}
use Rattle.rows.specs.Judging.{After, Kept, Next, Ready, refused, taken}
use Rattle.rows.proofs.StackLaws.{opened-length, stands-value, stands-key, stands_open}
use Rattle.encoder.proofs.MeasureLaws.{names_more, measure_plain}

-- ---- the rules, in their order

-- What rule 3 gives, with a row beside.
abbrev pub bad_text : List ℕ → Row → ℕ → Option Failure
bad_text text r row = Some (failure_beside InvalidUtf8 (r.start + bad_at (content_of text r)) row)

module _ (text : List ℕ) (p : Progress) (r : Row) where
  abbrev x : Item
  x = item_at text r

  pub rule_9 : is_bad text r ≡ true → first (row_rules text p r) ≡ Some (failure InvalidRow p.row)
  unfolding row_rules first rule pick
  rule_9 h = rw h

  module _ (fine : is_bad text r ≡ false) where
    pub rule_5 : key_after_key p.place (item_at text r) ≡ true → first (row_rules text p r) ≡ Some (failure UnexpectedKey p.row)
    unfolding row_rules first rule pick
    rule_5 h = rw (fine, h)

    module _ (keys : key_after_key p.place (item_at text r) ≡ false) where
      pub rule_6 : is_too_deep p.place (item_at text r) ≡ true → first (row_rules text p r) ≡ Some (failure TooDeep p.row)
      unfolding row_rules first rule pick
      rule_6 h = rw (fine, keys, h)

      module _ (flat : is_too_deep p.place (item_at text r) ≡ false) where
        pub rule_3 : is_text (item_at text r) && not (utf8 (item_at text r).content) ≡ true
            → first (row_rules text p r) ≡ bad_text text r p.row
        unfolding row_rules first rule pick item_at
        rule_3 h = rw (fine, keys, flat, h)

        module _ (texts : is_text (item_at text r) && not (utf8 (item_at text r).content) ≡ false) where
          pub rule_8 : max_entries < length (noted (item_at text r) p.names)
              → first (row_rules text p r) ≡ Some (failure TooManyEntries p.row)
          unfolding row_rules first rule pick with_item
          rule_8 h = rw (fine, keys, flat, texts, ltb_yes h)

          pub rule-none : length (noted (item_at text r) p.names) ≤ max_entries → first (row_rules text p r) ≡ None
          unfolding row_rules first rule pick with_item
          rule-none h = rw (fine, keys, flat, texts, ltb_no h)

-- ---- one row more

module _ (text : List ℕ) (p : Progress) (r : Row) where
  judged_bad : (f : Failure) → first (row_rules text p r) ≡ Some f → (rest : List Row) → judge text p (r ∷ rest) ≡ Err f
  unfolding judge then unless
  judged_bad f q rest = rw q

  module _ (e : first (row_rules text p r) ≡ None) where
    judged_good : (rest : List Row) → judge text p (r ∷ rest) ≡ judge text (with_item p (item_at text r)) rest
    unfolding judge then unless
    judged_good rest = rw e

    passed : is_bad text r ≡ false
    unfolding row_rules rule
    passed = (applied_none (row_rules text p r) e).0

module _ {text : List ℕ} {names : Names} {st plan : List ℕ} {xs : List Row} {s : State} (a : After text names st plan xs s) (r : Row) where
  -- it is refused, whatever became of the tables
  pub refuse_next : {names' : Names} {st' plan' : List ℕ} (e : Error) {t : State} {q : Answer Unit} → q ≡ fail e s.row
      → first (row_rules text a.progress r) ≡ Some (failure e a.progress.row) → Next text names' st' plan' xs r s t q
  unfolding fail
  refuse_next e q rules =
      rw q
      (refused (λ rest. a.run (r ∷ rest) ∙ judged_bad text a.progress r _ (rules ∙ ap (λ (n : ℕ). Some (failure e n)) a.row) rest))

  -- for a text that is not UTF-8, at an offset in the text
  pub refuse_text_next : {names' : Names} {st' plan' part : List ℕ} {t : State} {f : Failure} → part ≡ content_of text r
      → f ≡ failure_beside InvalidUtf8 (r.start + bad_at part) s.row
      → first (row_rules text a.progress r) ≡ bad_text text r a.progress.row → Next text names' st' plan' xs r s t (Err f)
  refuse_text_next e q rules =
      rw (q, e) (refused (λ rest. a.run (r ∷ rest) ∙ judged_bad text a.progress r _ (rules ∙ ap (bad_text text r) a.row) rest))

  -- it is taken
  pub take_next : {names' : Names} {st' plan' : List ℕ} (t : State) → names'.first.now ≡ text → first (row_rules text a.progress r) ≡ None
      → t.row ≡ s.row + 1 → t.size ≤ s.size + max_item
      → Stands st' t.depth t.left t.keyed t.row (moved a.progress.place (item_at text r))
      → Measured plan_size names' plan' (a.progress.items ++ (item_at text r ∷ [])) t.size
      → Next text names' st' plan' xs r s t (Ok tt)
  unfolding with_item
  take_next t over rules er small stands measured =
      taken
      (record {
        over = over;
        progress = with_item a.progress x;
        run = λ rest. ap (judge text begin) (append_assoc xs (r ∷ []) rest) ∙ a.run (r ∷ rest)
            ∙ judged_good text a.progress r rules rest;
        fine = all_append _ xs (r ∷ []) a.fine (passed text a.progress r rules, tt);
        items = ap (λ (l : List Item). l ++ (x ∷ [])) a.items ∙ sym (map-append (item_at text) xs (r ∷ []));
        names = ap (noted x) a.names ∙ sym (names_more a.progress.items x);
        row = sym (add-one a.progress.row) ∙ omega (arith, a.row);
        rows = omega (arith, length-append xs (r ∷ []), a.rows);
        small = omega (arith, a.small);
        stands = stands;
        measured = measured;
      })
      er
    where
      x : Item
      x = item_at text r

-- What is as it was is kept, whatever is answered.
pub kept_by : {A : Type 0} {x y : A} → y ≡ x → (q : Answer Unit) → Kept x y q
kept_by e (Ok _) = tt
kept_by e (Err _) = e

-- The same for an equal row.
pub next_row : {text : List ℕ} {names : Names} {st plan : List ℕ} {xs : List Row} {q r : Row} {s t : State} {a : Answer Unit} → q ≡ r
    → Next text names st plan xs q s t a → Next text names st plan xs r s t a
next_row {text} {names} {st} {plan} {xs} {q} {r} {s} {t} {a} e = subst (λ (z : Row). Next text names st plan xs z s t a) e

-- A state that is ready takes one item more.
pub ready_more : {text st : List ℕ} {s : State} → Ready text st s → (n : ℕ) → n ≤ max_item
    → (length st ≡ max_depth) × (s.depth ≤ max_depth) × (2 ≤ bottom st s.depth s.left) × (s.row + 1 < 2 ^ 64)
    × (s.size + n < 2 ^ 64)
ready_more w n l = (w.stack, w.deep, w.top, omega (arith, w.row), omega (arith, w.small, w.row))

module _ {text : List ℕ} {names : Names} {st plan : List ℕ} {xs : List Row} {s : State} (a : After text names st plan xs s) (r : Row) where
  pub value-next : {names' : Names} {plan' : List ℕ} (n : ℕ) {t : State} → names'.first.now ≡ text → t ≡ valued st s n
      → s.row < max_rows → n ≤ max_item
      → first (row_rules text a.progress r) ≡ None → is_key (item_at text r) ≡ false → is_container (item_at text r)
      && ltb 0 r.number ≡ false
      → Measured plan_size names' plan' (a.progress.items ++ (item_at text r ∷ [])) (s.size + n)
      → Next text names' st plan' xs r s t (Ok tt)
  unfolding valued item_at
  value-next n over e lt l rules key box m = rw e (take_next a r (valued st s n) over rules refl (omega arith)
      (stands-value a.stands (item_at text r) lt key box) m)

  pub named-next : {names' : Names} {plan' : List ℕ} (n : ℕ) {t : State} → names'.first.now ≡ text → t ≡ named_by st s r.kind n
      → s.row < max_rows → n ≤ max_item → r.kind ≢ Kind.container
      → first (row_rules text a.progress r) ≡ None
      → Measured plan_size names' plan' (a.progress.items ++ (item_at text r ∷ [])) (s.size + n)
      → Next text names' st plan' xs r s t (Ok tt)
  unfolding named_by keyed_by item_at is_key is_container
  named-next n over e lt l box rules m =
      cases (eqb r.kind Kind.key)
      (λ k. rw (e ∙ pick_yes _ _ k) (take_next a r (keyed_by s n) over rules refl (omega arith)
      (stands-key a.stands (item_at text r) k) m))
      (λ k. value-next n over (e ∙ pick_no _ _ k) lt l rules k (and_no_left _ (eqb_no box)) m)

  pub open_next : (n : ℕ) {st' : List ℕ} {t : State} → t ≡ opened_by s r.number n → st' ≡ set st s.depth s.left
      → s.depth < max_depth → n ≤ max_item
      → first (row_rules text a.progress r) ≡ None → is_key (item_at text r) ≡ false → is_container (item_at text r)
      && ltb 0 r.number ≡ true
      → Measured plan_size names plan (a.progress.items ++ (item_at text r ∷ [])) (s.size + n)
      → Next text names st' plan xs r s t (Ok tt)
  unfolding opened_by item_at
  open_next n e f lt l rules key box m = rw (e, f)
      (take_next a r (opened_by s r.number n) a.over rules refl (omega arith)
      (stands_open a.stands (item_at text r) key box lt) m)

  -- ---- what the rules ask

  pub names-count : length a.progress.names ≡ names.count
  names-count = ap length (a.names ∙ sym a.measured.names) ∙ length_names names

  pub items-count : length a.progress.items ≡ s.row
  items-count = ap length a.items ∙ length-map xs (item_at text) ∙ a.rows

  pub keys_are : key_after_key a.progress.place (item_at text r) ≡ (eqb s.keyed 1 && eqb r.kind Kind.key)
  unfolding item_at is_key
  keys_are = ap (λ b. b && eqb r.kind Kind.key) a.stands.key

  pub depth_is : is_too_deep a.progress.place (item_at text r) ≡ (eqb r.kind Kind.container && leb max_depth s.depth)
  unfolding item_at is_container
  depth_is = ap (λ n. eqb r.kind Kind.container && leb max_depth n) (ap length a.stands.opened
      ∙ opened-length st s.depth s.left)

  pub no_container : r.kind ≢ Kind.container → is_container (item_at text r) && ltb 0 r.number ≡ false
  unfolding item_at is_container
  no_container n = and_no_left _ (eqb_no n)

  pub a_container : r.kind ≡ Kind.container → is_container (item_at text r) && ltb 0 r.number ≡ ltb 0 r.number
  unfolding item_at is_container
  a_container e = rw (eqb_yes e)

  -- ---- a row that is no name

  module _ (lo : r.kind < Kind.symbol) where
    pub no_key : is_key (item_at text r) ≡ false
    unfolding item_at is_key
    no_key = eqb_no {a = r.kind} {b = 11} (λ e. omega arith)

    pub no_keys : key_after_key a.progress.place (item_at text r) ≡ false
    no_keys = and_no_right a.progress.place.keyed no_key

    pub no_name : is_name (item_at text r) ≡ false
    unfolding item_at is_name
    no_name = leb_no lo

    pub few-names : length (noted (item_at text r) a.progress.names) ≤ max_entries
    few-names = omega (arith, ap length (noted-plain (item_at text r) a.progress.names no_name), names-count, names.chained.table.few)

    pub measured-plain : (n : ℕ) → s.row < max_rows → n ≡ length (full (item_at text r))
        → Measured plan_size names plan (a.progress.items ++ (item_at text r ∷ [])) (s.size + n)
    measured-plain n lt e = measure_plain a.measured (item_at text r) (omega (arith, items-count)) n no_name e
