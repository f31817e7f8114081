-- A row by its kind: which rules it breaks, and what it measures. Assumes nothing.
use Rattle.std.specs.Prelude.{None, Some}
use mathlib.Core.Path.{◌≡◌, refl, ap, sym, ◌∙◌}
use mathlib.Core.Logic.{◌≢◌}
use mathlib.Core.Bool.{true, false, not, ◌&&◌}
use mathlib.Core.List.{List, [], ◌∷◌}
use Prim.Native.Nat.{ℕ, ◌+◌, ◌-◌, ◌≤◌, ◌<◌}
use native.Mathlib.Omega.{arith}
use lib.Dec.{eqb, ltb}
use lib.ListN.{length, length-append}
use Rattle.format.specs.declared.row.Row.{Row}
use Rattle.format.specs.declared.error.Error.TheVariants.{TooDeep, TooManyEntries, UnexpectedKey}
use Rattle.format.specs.Code as Code
use Rattle.format.specs.Kind as Kind
use Rattle.format.specs.Answer.{failure, first}
use Rattle.format.specs.Header.{header}
use Rattle.format.specs.Utf8.{utf8}
use Rattle.format.specs.Item.{has_content, is_text, is_name}
use Rattle.format.specs.Names.{index, noted, names_from}
use Rattle.format.specs.Canonical.{full}
use Rattle.format.specs.Place.{is_too_deep}
use Rattle.format.specs.Rows.{content_of, item_at}
use Rattle.format.specs.Writing.{is_bad, row_rules}
use Rattle.format.specs.Limits.{max_bytes, max_depth, max_entries, max_item}
use Rattle.format.proofs.Tests.{equal, eqb_yes, eqb_no, leb_yes, leb_no, ltb_no, and_yes, and_no_left, and_no_right, pick_no}
use Rattle.format.proofs.Names.{item_path, noted-known, noted-fresh}
use Rattle.rows.specs.declared.state.State.{State}
use Rattle.rows.specs.Judging.{After}
use Rattle.encoder.proofs.Lengths.{header-most, length-sized}
use Rattle.rows.proofs.RowLaws.{content-kinds, bad-content, bad-plain, number-other, inside, content-length}
use Rattle.symbols.specs.declared.names.Names.{Names}
use Rattle.encoder.proofs.MeasureLaws.{known-text}
use Rattle.rows.proofs.JudgeLaws.{bad_text, rule_5, rule_6, rule_3, rule_8, rule-none, names-count, keys_are, depth_is, no_keys, few-names}

-- ---- with content

module _ (text : List ℕ) (r : Row) (h : has_content r.kind ≡ true) where
  -- rule 9 is that the part is outside
  pub content-bad : r.kind ≤ Kind.key → is_bad text r ≡ ltb (length text) (r.start + r.number)
  content-bad l = bad-content text r h ∙ rw (ltb_no {a = 11} {b = r.kind} l)

  pub content-full : is_bad text r ≡ false → (m : ℕ) → m ≡ length (header (r.kind - Kind.bytes) r.number)
      → m + r.number ≡ length (full (item_at text r))
  unfolding item_at
  content-full fine m e = omega (arith, length-sized (item_at text r) (content-kinds r.kind h).0, content-length text r fine h)

  pub content-small : is_bad text r ≡ false → length text ≤ max_bytes → (m : ℕ)
      → m ≡ length (header (r.kind - Kind.bytes) r.number) → m + r.number ≤ max_item
  content-small fine l m e = let i = inside text r fine h in
      omega (arith, i, header-most (r.kind - Kind.bytes) r.number (omega (arith, i)))

-- ---- no name

module _ {text : List ℕ} {names : Names} {st plan : List ℕ} {xs : List Row} {s : State} (a : After text names st plan xs s) (r : Row)
    (lo : r.kind < Kind.symbol) (fine : is_bad text r ≡ false) where
  text-is : is_text (item_at text r) ≡ eqb r.kind Kind.string
  unfolding item_at is_text
  text-is = equal r.kind 9 (λ e. leb_yes {a = 9} {b = r.kind} (omega arith) ∙ sym (eqb_yes e))
      (λ e. leb_no {a = 9} {b = r.kind} (omega arith) ∙ sym (eqb_no e))

  flat : r.kind ≢ Kind.container → is_too_deep a.progress.place (item_at text r) ≡ false
  flat n = depth_is a r ∙ and_no_left _ (eqb_no n)

  pub plain-deep : r.kind ≡ Kind.container → max_depth ≤ s.depth
      → first (row_rules text a.progress r) ≡ Some (failure TooDeep a.progress.row)
  plain-deep e d = rule_6 text a.progress r fine (no_keys a r lo) (depth_is a r ∙ and_yes (eqb_yes e) (leb_yes d))

  pub plain-text : r.kind ≢ Kind.container → eqb r.kind Kind.string && not (utf8 (content_of text r)) ≡ true
      → first (row_rules text a.progress r) ≡ bad_text text r a.progress.row
  unfolding item_at
  plain-text n e = rule_3 text a.progress r fine (no_keys a r lo) (flat n) (ap (λ b. b && not (utf8 (content_of text r))) text-is ∙ e)

  pub plain-none : is_too_deep a.progress.place (item_at text r) ≡ false → eqb r.kind Kind.string
      && not (utf8 (content_of text r)) ≡ false → first (row_rules text a.progress r) ≡ None
  unfolding item_at
  plain-none d e = rule-none text a.progress r fine (no_keys a r lo) d
      (ap (λ b. b && not (utf8 (content_of text r))) text-is ∙ e) (few-names a r lo)

  pub value_none : r.kind ≢ Kind.container → eqb r.kind Kind.string && not (utf8 (content_of text r)) ≡ false
      → first (row_rules text a.progress r) ≡ None
  value_none n e = plain-none (flat n) e

  pub container-none : r.kind ≡ Kind.container → s.depth < max_depth → first (row_rules text a.progress r) ≡ None
  container-none e d = plain-none (depth_is a r ∙ and_no_right (eqb r.kind Kind.container) (leb_no d))
      (and_no_left _ (eqb_no {a = r.kind} {b = 9} (λ q. omega arith)))

-- ---- no content

pub bare : (text : List ℕ) (k n : ℕ) → has_content k ≡ false
    → item_at text (record { kind = k; number = n; start = 0 }) ≡ record { kind = k; number = n; content = [] }
unfolding item_at content_of
bare text k n h = item_path refl refl (pick_no _ _ h)

no_content : has_content 8 ≡ false
unfolding has_content
no_content = refl

module _ (text : List ℕ) (n : ℕ) where
  pub container-fine : is_bad text (record { kind = 8; number = n; start = 0 }) ≡ false
  container-fine = bad-plain text (record { kind = 8; number = n; start = 0 }) (omega arith) no_content refl
      ∙ sym (number-other 8 n (omega arith) (λ e. omega arith) (λ e. omega arith))

  pub container-full : length (header Code.container n) ≡ length (full (item_at text (record { kind = 8; number = n; start = 0 })))
  container-full = omega (arith, length-sized (record { kind = 8; number = n; content = [] }) (omega arith))
      ∙ ap (λ x. length (full x)) (sym (bare text 8 n no_content))

-- ---- names

module _ {text : List ℕ} {names : Names} {st plan : List ℕ} {xs : List Row} {s : State} (a : After text names st plan xs s) (r : Row)
    (name : Kind.symbol ≤ r.kind) (fine : is_bad text r ≡ false) where
  pub is_name_lem : is_name (item_at text r) ≡ true
  unfolding item_at is_name
  is_name_lem = leb_yes name

  pub name-again : eqb s.keyed 1 && eqb r.kind Kind.key ≡ true
      → first (row_rules text a.progress r) ≡ Some (failure UnexpectedKey a.progress.row)
  name-again e = rule_5 text a.progress r fine (keys_are a r ∙ e)

  module _ (alone : eqb s.keyed 1 && eqb r.kind Kind.key ≡ false) where
    name_flat : is_too_deep a.progress.place (item_at text r) ≡ false
    name_flat = depth_is a r ∙ and_no_left _ (eqb_no {a = r.kind} {b = 8} (λ e. omega arith))

    name-text : is_text (item_at text r) ≡ true
    unfolding item_at is_text
    name-text = leb_yes {a = 9} {b = r.kind} (omega arith)

    pub name_invalid : not (utf8 (content_of text r)) ≡ true
        → first (row_rules text a.progress r) ≡ bad_text text r a.progress.row
    unfolding item_at
    name_invalid u = rule_3 text a.progress r fine (keys_are a r ∙ alone) name_flat (and_yes name-text u)

    good-text : utf8 (content_of text r) ≡ true → is_text (item_at text r) && not (utf8 (item_at text r).content) ≡ false
    unfolding item_at
    good-text u = and_no_right (is_text (item_at text r)) (ap not u)

    pub known-none : (i : ℕ) → index (item_at text r) (names_from [] a.progress.items) ≡ Some i
        → first (row_rules text a.progress r) ≡ None
    unfolding item_at
    known-none i e =
        rule-none text a.progress r fine (keys_are a r ∙ alone) name_flat (good-text (known-text a.measured (item_at text r) i e))
        (omega (
          arith,
          ap length (noted-known (item_at text r) a.progress.names (ap (index (item_at text r)) a.names ∙ e)),
          names-count a r,
          names.chained.table.few,
        ))

    module _ (e : index (item_at text r) (names_from [] a.progress.items) ≡ None) (u : utf8 (content_of text r) ≡ true) where
      more : length (noted (item_at text r) a.progress.names) ≡ names.count + 1
      more = omega (arith, ap length (noted-fresh (item_at text r) a.progress.names is_name_lem (ap (index (item_at text r)) a.names ∙ e)), length-append a.progress.names (item_at text r ∷ []), names-count a r)

      pub fresh-full : max_entries ≤ names.count → first (row_rules text a.progress r) ≡ Some (failure TooManyEntries a.progress.row)
      fresh-full l = rule_8 text a.progress r fine (keys_are a r ∙ alone) name_flat (good-text u) (omega (arith, more))

      pub fresh-none : names.count < max_entries → first (row_rules text a.progress r) ≡ None
      fresh-none l = rule-none text a.progress r fine (keys_are a r ∙ alone) name_flat (good-text u) (omega (arith, more))
