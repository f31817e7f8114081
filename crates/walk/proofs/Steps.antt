-- One item more of a bundle that reads, by the form of its header: its row, where it ends, and the table after it. Assumes nothing.
use Rattle.std.specs.Prelude.{None, Some, slice_get}
use mathlib.Core.Path.{◌≡◌, refl, sym, ap, ap₂, ◌∙◌, subst}
use mathlib.Core.Bool.{Bool, true, false}
use mathlib.Core.List.{List, [], ◌∷◌, ◌++◌}
use Prim.Native.Nat.{ℕ, ◌+◌, ◌≤◌, ◌<◌}
use native.Mathlib.Omega.{arith}
use lib.Dec.{leb}
use lib.ListN.{length, drop, get_or, set, length-drop, length-set}
use Rattle.format.specs.declared.header.Header.{Header}
use Rattle.format.specs.declared.row.Row.{Row}
use Rattle.format.specs.Kind as Kind
use Rattle.format.specs.Code as Code
use Rattle.format.specs.Limits.{fixed_sizes, max_bytes, max_entries}
use Rattle.format.specs.Header.{header_of}
use Rattle.format.specs.Item.{is_name}
use Rattle.format.specs.Reading.{Found, Options, State, Form, content, fixed, reference, form_of, is_content}
use Rattle.format.specs.Rows.{row_of}
use Rattle.format.proofs.Tests.{order, leb_yes, leb_no, none-some, some_inj}
use Rattle.format.proofs.Turns.{Turn, turn, never-cut, form-read, turn_forward, turn_found, header-within, flat_ends, flat_kept, fixed-is, reference-is, content-is, content-inside, content-ends, content-kept, name-room, name-entry}
use Rattle.symbols.specs.Entry.{Packed, plain_entry, row_in, name_in}
use Rattle.symbols.specs.Entries.{found_in, entries_of, part_of}
use Rattle.symbols.proofs.EntryLaws.{packed_plain}
use Rattle.symbols.proofs.Entries.{length-entries, entry-none, entry-is, entries-more, found_packed}
use Rattle.walk.specs.declared.Walked.{Walked}
use Rattle.walk.specs.Walking.{Walks, Onward}

abbrev pub row : ℕ → ℕ → ℕ → Row
row kind number start = record { kind = kind; number = number; start = start }

-- Where an item is left there is a whole header.
pub whole {ℓ} : {X : Type ℓ} {o : Options} {bs : List ℕ} {u s : State} {table : List ℕ} {w : Walked}
    → Walks o bs u s table w → w.at < length bs → None ≡ header_of (drop w.at bs) → X
whole {o = o} {bs = bs} {s = s} p l e = never-cut o bs s p.reads (omega (arith, p.offset)) (rw p.offset at e)

module _ {o : Options} {bs : List ℕ} {u s : State} {table : List ℕ} {w : Walked} (p : Walks o bs u s table w)
    {h : Header} (e : Some h ≡ header_of (drop w.at bs)) where
  turned : Turn o bs s u h
  turned = turn bs p.reads (rw p.offset at e)

  -- the header ends within the bytes
  pub inside : w.at + h.size ≤ length bs
  inside = omega (arith, p.offset, header-within turned)

  -- null, true, false or a float
  pub form_small : h.code ≡ Code.binary → h.sz < fixed_sizes → form_of h ≡ fixed h.sz h.payload
  form_small = form-read turned

  pub near : w.at + h.size ≤ max_bytes
  near = omega (arith, inside, p.short)

  module _ {table' : List ℕ} {r : Walked} (ends : turned.next.at ≡ r.at) (is : r.row ≡ row_of turned.y)
      (size : length table' ≡ max_entries) (few : r.entries ≤ max_entries)
      (entries : turned.next.entries ≡ entries_of bs table' r.entries) where
    onward : Onward o bs u s table' w r
    onward =
        record {
          next = turned.next;
          is = turned.is;
          x = turned.y;
          found = turn_found turned;
          row = is;
          walks = record {
            short = p.short;
            reads = turned.reads;
            offset = sym ends;
            within = omega (arith, turned.within);
            size = size;
            few = few;
            entries = entries;
          };
          ahead = omega (arith, turn_forward turned, p.offset);
        }

  -- ---- what ends with its header

  module _ {f : Form} (ef : form_of h ≡ f) (flat : is_content f ≡ false) {q : Row} (eq : q ≡ row_of turned.y)
      {r : Walked} (is : r ≡ record { at = w.at + h.size; entries = w.entries; row = q }) where
    flat_on : Onward o bs u s table w r
    flat_on = rw is (onward (flat_ends turned ef flat ∙ ap (λ (n : ℕ). n + h.size) (sym p.offset)) eq p.size
        p.few (flat_kept turned ef flat ∙ p.entries))

  pub fixed_on : (k n : ℕ) → form_of h ≡ fixed k n → {r : Walked}
      → r ≡ record { at = w.at + h.size; entries = w.entries; row = row k n 0 } → Onward o bs u s table w r
  unfolding is_content row_of
  fixed_on k n ef is = flat_on ef refl (sym (ap row_of (fixed-is turned ef))) is

  module _ (ef : form_of h ≡ reference) where
    at_entry : slice_get (entries_of bs table w.entries) h.payload ≡ Some turned.y
    at_entry = subst (λ (l : List Found). slice_get l h.payload ≡ Some turned.y) p.entries (reference-is turned ef)

    before : h.payload < w.entries
    before = order w.entries h.payload
        (λ l. none-some (sym (entry-none bs table w.entries p.size p.few h.payload l) ∙ at_entry)) (λ l. l)

    pub reference-small : h.payload < max_entries
    reference-small = omega (arith, before, p.few)

    pub reference-on : {q : Row} → q ≡ row_in (get_or table h.payload 0)
        → {r : Walked} → r ≡ record { at = w.at + h.size; entries = w.entries; row = q } → Onward o bs u s table w r
    unfolding is_content row_of found_in name_in
    reference-on eq is = flat_on ef refl (eq
        ∙ ap row_of (some_inj (sym (entry-is bs table w.entries p.size p.few h.payload before) ∙ at_entry))) is

  -- ---- content

  module _ {k : ℕ} (ef : form_of h ≡ content k) where
    pub content-small : h.payload ≤ max_bytes
    content-small = omega (arith, content-inside turned ef, length-drop (s.at + h.size) bs, p.short)

    part : part_of bs k (w.at + h.size) h.payload ≡ turned.y
    part = ap (λ (n : ℕ). part_of bs k (n + h.size) h.payload) p.offset ∙ sym (content-is turned ef)

    name-is : (b : Bool) → leb Kind.symbol k ≡ b → is_name turned.y.item ≡ b
    unfolding is_name
    name-is b e = ap (λ (y : Found). leb Kind.symbol y.item.kind) (sym part) ∙ e

    there : {n : ℕ} → n ≡ h.payload → turned.next.at ≡ w.at + h.size + n
    there en = content-ends turned ef ∙ omega (arith, p.offset, en)

    the_row : {n : ℕ} → n ≡ h.payload → row k n (w.at + h.size) ≡ row_of turned.y
    unfolding row_of
    the_row en = ap (λ (n : ℕ). row k n (w.at + h.size)) en ∙ ap row_of part

    pub content-on : k < Kind.symbol → {n : ℕ} → n ≡ h.payload → {r : Walked}
        → r ≡ record { at = w.at + h.size + n; entries = w.entries; row = row k n (w.at + h.size) }
        → Onward o bs u s table w r
    content-on l en is = rw is (onward (there en) (the_row en) p.size p.few
        (content-kept turned ef (name-is false (leb_no {a = Kind.symbol} {b = k} l)) ∙ p.entries))

    module _ (lo : Kind.symbol ≤ k) where
      name : is_name turned.y.item ≡ true
      name = name-is true (leb_yes {a = Kind.symbol} {b = k} lo)

      pub name-few : w.entries < max_entries
      name-few = omega (arith, name-room turned ef name, ap length p.entries ∙ length-entries bs table w.entries p.size p.few)

      pub name-on : k ≤ Kind.key → {n : ℕ} → n ≡ h.payload → {table' : List ℕ}
          → table' ≡ set table w.entries (plain_entry k (w.at + h.size) n)
          → {r : Walked} → r ≡ record {
            at = w.at + h.size + n;
            entries = w.entries + 1;
            row = row k n (w.at + h.size);
          } → Onward o bs u s table' w r
      name-on hi {n} en et is =
          let entry = plain_entry k (w.at + h.size) n in
          let q : Packed entry (w.at + h.size) 0 n k = packed_plain (w.at + h.size) n k (omega (arith, en, content-small)) lo hi in
          let m : found_in bs entry ≡ turned.y = found_packed bs q ∙ ap (part_of bs k (w.at + h.size)) en ∙ part in
          rw (is, et)
          (onward (there en) (the_row en) (length-set table w.entries entry ∙ p.size) (omega (arith, name-few))
          (name-entry turned ef name ∙ ap₂ (λ (l : List Found) (y : Found). l ++ (y ∷ [])) p.entries (sym m)
          ∙ sym (entries-more bs table w.entries p.size p.few entry name-few)))
