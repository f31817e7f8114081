-- Names of rows: known by a guess or a search, or new. Assumes nothing.
use Rattle.std.specs.Prelude.{Option, None, Some, Ok}
use mathlib.Core.Path.{◌≡◌, refl, ap, sym, ◌∙◌}
use mathlib.Core.Bool.{true, false}
use mathlib.Core.List.{List, []}
use Prim.Native.Nat.{ℕ, ◌+◌, ◌-◌, ◌^◌, ◌≤◌, ◌<◌}
use native.Mathlib.Omega.{arith}
use lib.ListN.{length, take, drop, set, get_or, length-set}
use lib.Seq.{get_or-set_same, get_or-set_other}
use Rattle.format.specs.declared.row.Row.{Row}
use Rattle.format.specs.Code as Code
use Rattle.format.specs.Kind as Kind
use Rattle.format.specs.Header.{header}
use Rattle.format.specs.Utf8.{utf8}
use Rattle.format.specs.Item.{Item, has_content}
use Rattle.format.specs.Names.{index, names_from}
use Rattle.format.specs.Rows.{content_of, item_at}
use Rattle.format.specs.Writing.{is_bad}
use Rattle.format.specs.Limits.{max_bytes, max_rows}
use Rattle.encoder.specs.Plan.{no_index}
use Rattle.format.proofs.Names.{item_path}
use Rattle.symbols.specs.Entry.{name, side_of, Part}
use Rattle.symbols.specs.Entries.{part_of}
use Rattle.symbols.specs.declared.names.Names.{Names}
use Rattle.symbols.specs.Names.{Entered, names_of}
use Rattle.symbols.proofs.EntryLaws.{side_first}
use Rattle.rows.specs.declared.state.State.{State}
use Rattle.rows.specs.Steps.{named_by}
use Rattle.rows.specs.Names.{Naming}
use Rattle.rows.specs.Judging.{After, Ready, Next}
use Rattle.encoder.proofs.Lengths.{header-most}
use Rattle.rows.proofs.RowLaws.{content-text, kind-most, inside, content_part, content-length}
use Rattle.encoder.proofs.MeasureLaws.{measure_known, measure_fresh}
use Rattle.rows.proofs.JudgeLaws.{named-next, items-count}
use Rattle.rows.proofs.KindLaws.{content-full, content-small, is_name_lem, known-none, fresh-none}

-- ---- the name of a row

module _ (text : List ℕ) (r : Row) (lo : Kind.symbol ≤ r.kind) (fine : is_bad text r ≡ false) where
  pub has_content_lem : has_content r.kind ≡ true
  has_content_lem = content-text r.kind (omega arith)

  name-is : item_at text r ≡ name r.kind (content_of text r)
  unfolding item_at
  name-is = item_path refl (sym (content-length text r fine has_content_lem)) refl

  name-inside : r.start + length (content_of text r) ≤ length text
  name-inside = omega (arith, content-length text r fine has_content_lem, inside text r fine has_content_lem)

  name_part : content_of text r ≡ take (length (content_of text r)) (drop r.start text)
  name_part = sym (content_part text r fine has_content_lem)
      ∙ ap (λ n. take n (drop r.start text)) (sym (content-length text r fine has_content_lem))

  -- where its bytes stand
  pub name-stands : (names : Names) {part : List ℕ} → names.first.now ≡ text → length text ≤ max_bytes → part ≡ content_of text r
      → Part names.first.now names.second.now r.kind 0 r.start part
  name-stands names over short e =
      let side : side_of 0 names.first.now names.second.now ≡ text = side_first 0 names.first.now names.second.now refl ∙ over in
      rw e
      (record {
        low = lo;
        high = kind-most text r fine;
        sides = omega arith;
        short = omega (arith, name-inside);
        near = omega (arith, name-inside);
        inside = rw side name-inside;
        is = rw side name_part;
      })

  -- the row's part of the text is its name
  pub part_item : item_at text r ≡ (part_of text r.kind r.start r.number).item
  unfolding item_at
  part_item = item_path refl refl (sym (content_part text r fine has_content_lem))

-- ---- one name more

module _ {text : List ℕ} {names : Names} {st plan : List ℕ} {xs : List Row} {s : State} (a : After text names st plan xs s) (r : Row)
    (w : Naming text s r) (ready : Ready text st s) where
  -- the search is in the names of the items
  pub among : {o : Option ℕ} → index (item_at text r) (names_of names) ≡ o
      → index (item_at text r) (names_from [] a.progress.items) ≡ o
  among e = ap (index (item_at text r)) (sym a.measured.names) ∙ e

  -- and it is by the bytes
  pub looked_up : {part : List ℕ} {o : Option ℕ} → part ≡ content_of text r → index (name r.kind part) (names_of names) ≡ o
      → index (item_at text r) (names_of names) ≡ o
  looked_up e f = ap (λ (x : Item). index x (names_of names)) (name-is text r w.name w.fine ∙ ap (name r.kind) (sym e)) ∙ f

  pub known_next : {plan' : List ℕ} (i : ℕ) {t : State} → i < 2 ^ 64
      → index (item_at text r) (names_of names) ≡ Some i
      → t ≡ named_by st s r.kind (length (header Code.reference i)) → plan' ≡ set plan s.row i
      → Next text names st plan' xs r s t (Ok tt)
  known_next i l e et ep =
      rw ep
      (named-next a r (length (header Code.reference i)) a.over et ready.row (omega (arith, header-most 7 i l))
      (λ q. omega (arith, w.name))
      (known-none a r w.name w.fine w.alone i (among e))
      (rw (← items-count a r) (measure_known a.measured (item_at text r) (omega (arith, items-count a r, ready.row))
      i (length (header Code.reference i)) (is_name_lem a r w.name w.fine) (among e) refl)))

  pub fresh-next : {names' : Names} {plan' part : List ℕ} (g v : ℕ) {t : State} → part ≡ content_of text r → utf8 (content_of text r) ≡ true
      → Entered names names' (name r.kind part) r.start
      → t ≡ named_by st s r.kind (length (header (r.kind - Kind.bytes) r.number) + r.number)
      → plan' ≡ set (set plan (max_rows + g) v) s.row no_index → Next text names' st plan' xs r s t (Ok tt)
  unfolding item_at
  fresh-next {part} g v e u n et ep =
      let is : name r.kind part ≡ item_at text r = ap (name r.kind) e ∙ sym (name-is text r w.name w.fine) in
      rw ep
      (named-next a r (m + r.number) (n.grown.first ∙ a.over) et ready.row
      (content-small text r hc w.fine ready.short m refl) (λ q. omega (arith, w.name))
      (fresh-none a r w.name w.fine w.alone new-name u n.grown.room)
      (measure_fresh a.measured (item_at text r) (omega (arith, count, ready.row))
      (set (set plan (max_rows + g) v) s.row no_index) (m + r.number)
      (is_name_lem a r w.name w.fine) (rw is at n) u (content-full text r hc w.fine m refl)
      (length-set (set plan (max_rows + g) v) s.row no_index ∙ length-set plan (max_rows + g) v ∙ a.measured.plan_size) old new))
    where
      m : ℕ
      m = length (header (r.kind - Kind.bytes) r.number)

      new-name : index (item_at text r) (names_from [] a.progress.items) ≡ None
      new-name = among (looked_up e n.new)

      hc : has_content r.kind ≡ true
      hc = has_content_lem text r w.name w.fine

      count : length a.progress.items ≡ s.row
      count = items-count a r

      old : (j : ℕ) → j < length a.progress.items → get_or (set (set plan (max_rows + g) v) s.row no_index) j 0 ≡ get_or plan j 0
      old j l =
          get_or-set_other (set plan (max_rows + g) v) s.row j no_index 0 (λ q. omega (arith, count))
          ∙ get_or-set_other plan (max_rows + g) j v 0 (λ q. omega (arith, count, ready.row))

      new : get_or (set (set plan (max_rows + g) v) s.row no_index) (length a.progress.items) 0 ≡ no_index
      new = rw count (get_or-set_same (set plan (max_rows + g) v) s.row no_index 0
          (omega (arith, length-set plan (max_rows + g) v, a.measured.plan_size, ready.row)))
