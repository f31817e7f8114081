-- One item more of a bundle that is written as it was planned. Assumes nothing.
use Rattle.std.specs.Prelude.{Some}
use mathlib.Core.Path.{◌≡◌, refl, sym, ap, ◌∙◌, subst}
use mathlib.Core.Bool.{true, false, ◌&&◌}
use mathlib.Core.List.{List, [], ◌∷◌, ◌++◌, append_assoc}
use Prim.Native.Nat.{ℕ, ◌+◌, ◌-◌, ◌≤◌, ◌<◌}
use native.Mathlib.Nat.{le_trans}
use native.Mathlib.Omega.{arith}
use lib.Dec.{leb, ltb, eqb}
use lib.ListN.{length, take, drop, get_or, set, length-set, length-append, length-take, length-drop}
use lib.Seq.{take_at}
use Rattle.format.specs.declared.header.Header.{Header}
use Rattle.format.specs.Header.{header_of}
use Rattle.format.specs.Item.{Item, is_name}
use Rattle.format.specs.Names.{index, names_from, noted}
use Rattle.format.specs.Reading.{State, after, form_of, is_content, items_of, lenient}
use Rattle.format.specs.Canonical.{canonical, full}
use Rattle.format.proofs.Tests.{cases, order, and-true, and_right, leb-false, ltb-false, pick_yes, pick_no}
use Rattle.format.proofs.Lists.{items_at_lem, items_snoc, length-items}
use Rattle.format.proofs.Headers.{size-within}
use Rattle.format.proofs.Names.{index_at}
use Rattle.format.proofs.Encoding.{at_lt}
use Rattle.format.proofs.Bounds.{noted_self}
use Rattle.format.proofs.Forms.{form-reference}
use Rattle.format.proofs.Turns.{Turn, turn, header-within, items-all, items_more, reference-is}
use Rattle.encoder.specs.Output.{PutsAt}
use Rattle.encoder.specs.Plan.{Planned, encoded_at, refer_to, referring}
use Rattle.encoder.proofs.MeasureLaws.{names_more}
use Rattle.encoder.proofs.PutLaws.{at_seam, canonical-within, names_fewer, one_fits, puts-more}
use Rattle.encoder.proofs.OutputLaws.{by_reference}
use Rattle.wire.proofs.CodeLaws.{code-within}
use Rattle.rewriter.specs.declared.putting.Spot.{Spot}
use Rattle.rewriter.specs.Items.{rewritten, content_length, Whole}
use Rattle.rewriter.specs.Measuring.{Mapped}
use Rattle.rewriter.specs.Putting.{Planning, Putting, Onward}
use Rattle.rewriter.proofs.MapLaws.{mapped-noted, mapped-entry}
use Rattle.rewriter.proofs.Arms.{fixed-code, form-held, number-plain, number-full, fixed_plain, fixed-full, content-plain, content-full, name-is}
use Rattle.rewriter.proofs.Rewritten.{rewritten-number, rewritten-reference, rewritten-fixed, rewritten-name, rewritten-sized}

module _ {s : List ℕ} {zs ws : List Item} {u : State} {plan old : List ℕ} (g : Planning s zs ws u plan (length old))
    {new : List ℕ} {w : Spot} (p : Putting s zs u old new w)
    {h : Header} (e : Some h ≡ header_of (drop w.at s)) where
  turned : Turn lenient s p.state u h
  turned = turn s p.reads (rw p.offset e)

  abbrev st : State
  st = p.state

  abbrev next : State
  next = turned.next

  abbrev x : Item
  x = turned.y.item

  abbrev ys : List Item
  ys = zs ++ items_of st.found

  abbrev later : List Item
  later = turned.later ++ ws

  whole : (zs ++ items_of u.found) ++ ws ≡ ys ++ (x ∷ later)
  whole = ap (λ (l : List Item). l ++ ws) (items-all turned zs) ∙ append_assoc ys (x ∷ turned.later) ws

  more : zs ++ items_of next.found ≡ ys ++ (x ∷ [])
  more = items_more turned zs

  planned : Planned plan (ys ++ (x ∷ later))
  planned = rw whole at g.planned

  few : length (names_from [] (ys ++ (x ∷ later))) ≤ 256
  few = rw whole at g.few

  fits : length (canonical (ys ++ (x ∷ later))) ≤ length old
  fits = rw whole at g.fits

  pub room : w.row < 1024
  room = omega (arith, planned.long, length-append ys (x ∷ later), p.put.row)

  -- ---- the item by its header

  module _ (hi : 7 ≤ h.code) where
    entry : (is_name x ≡ true) × (index x (names_from [] ys) ≡ Some (get_or p.to h.payload 0))
    entry = p.mapped.at h.payload x (items_at_lem st.entries h.payload (reference-is turned (form-reference h hi)))

    -- an entry has an index
    refers : get_or plan (length ys) 0 ≡ get_or p.to h.payload 0
    unfolding refer_to
    refers = rw (take_at ys (x ∷ later) (length ys) refl, entry.1) at (planned.refers (length ys) x (at_seam ys later x) entry.0)

    refer_small : get_or plan (length ys) 0 < 256
    refer_small = omega (arith, refers, at_lt (names_from [] ys) (get_or p.to h.payload 0) (index_at x (names_from [] ys) entry.1).at, names_fewer ys (x ∷ later) few)

  planned-plain : is_name x ≡ false → encoded_at plan (length ys) x ≡ full x
  unfolding encoded_at
  planned-plain n = pick_no _ _ n

  planned-name : is_name x ≡ true → encoded_at plan (length ys) x ≡ referring (get_or plan (length ys) 0) (full x)
  unfolding encoded_at
  planned-name n = pick_yes _ _ n

  as_planned : rewritten s (get_or plan (length ys) 0) (st.at + h.size) h ≡ encoded_at plan (length ys) x
  as_planned = cases (leb 1 h.code && leb h.code 3) number other
    where
      number : leb 1 h.code && leb h.code 3 ≡ true
          → rewritten s (get_or plan (length ys) 0) (st.at + h.size) h ≡ encoded_at plan (length ys) x
      number n =
          let (l, m) = code-within 1 3 h.code n in
          rewritten-number s _ _ h n ∙ sym (number-full turned l m) ∙ sym (planned-plain (number-plain turned l m).no_name)

      fixed : leb 1 h.code && leb h.code 3 ≡ false → h.code < 7 → eqb h.code 0 && ltb h.sz 5 ≡ true
          → rewritten s (get_or plan (length ys) 0) (st.at + h.size) h ≡ encoded_at plan (length ys) x
      fixed n l f =
          let (c, z) = fixed-code h.code h.sz f in
          rewritten-fixed s _ _ h n l f ∙ sym (fixed-full turned c z) ∙ sym (planned-plain (fixed_plain turned c z).no_name)

      held : leb 1 h.code && leb h.code 3 ≡ false → h.code < 7 → eqb h.code 0 && ltb h.sz 5 ≡ false
          → rewritten s (get_or plan (length ys) 0) (st.at + h.size) h ≡ encoded_at plan (length ys) x
      held n l f =
          let c = form-held h n f l in
          order 5 h.code
          (λ m. rewritten-name s _ _ h n l f m ∙ ap (referring (get_or plan (length ys) 0)) (sym (content-full turned c))
          ∙ sym (planned-name (name-is turned c m)))
          (λ m. rewritten-sized s _ _ h n l f m ∙ sym (content-full turned c) ∙ sym (planned-plain (content-plain turned c m).no_name))

      other : leb 1 h.code && leb h.code 3 ≡ false
          → rewritten s (get_or plan (length ys) 0) (st.at + h.size) h ≡ encoded_at plan (length ys) x
      other n =
          order 7 h.code
          (λ m. rewritten-reference s _ _ h n m ∙ sym (planned-name (entry m).0 ∙ by_reference _ _ (refer_small m)))
          (λ m. cases (eqb h.code 0 && ltb h.sz 5) (fixed n m) (held n m))

  -- ---- the buffer

  abbrev bytes : List ℕ
  bytes = rewritten s (get_or plan w.row 0) (w.at + h.size) h

  bytes_are : bytes ≡ encoded_at plan (length ys) x
  bytes_are = subst (λ (i : ℕ). rewritten s (get_or plan i 0) (w.at + h.size) h ≡ encoded_at plan (length ys) x)
      p.put.row (subst (λ (i : ℕ). rewritten s (get_or plan (length ys) 0) (i + h.size) h ≡ encoded_at plan
      (length ys) x) p.offset as_planned)

  kept : length new ≡ length old
  kept =
      let l = le_trans (canonical-within ys (x ∷ later)) fits in
      ap length p.put.puts.1 ∙ length-append (canonical ys) (drop (length (canonical ys)) old)
      ∙ omega (arith, l, length-drop (length (canonical ys)) old)

  pub fits_here : w.out + length bytes ≤ length new
  fits_here = omega (arith, kept, ap length bytes_are, p.put.puts.0, one_fits plan (length old) ys x later planned few fits)

  pub tail_long : length bytes ≤ length (take (length new - w.out) (drop w.out new))
  tail_long = rw (length-take, length-drop) (omega (arith, fits_here))

  pub inside : w.at + h.size ≤ length s
  inside = omega (arith, p.offset, header-within turned)

  pub content-whole : Whole s (w.at + h.size) h
  content-whole =
      record {
        within = λ c. omega (arith, p.offset, inside, length-drop (st.at + h.size) s, ltb-false (length (drop (st.at + h.size) s)) h.payload (and_right c turned.passed.whole));
      }

  -- ---- one item more

  abbrev EntryMap : Type 0
  EntryMap = (to' : List ℕ) × (length to' ≡ 256) × (length next.entries ≤ 256)
      × Mapped (items_of next.entries) to' (noted x (names_from [] ys))

  entry-map : EntryMap
  unfolding after
  entry-map = cases (is_content (form_of h) && is_name x) new-entry no_entry
    where
      no_entry : is_content (form_of h) && is_name x ≡ false → EntryMap
      no_entry c =
          let k : next.entries ≡ st.entries = ap (λ (v : State). v.entries) turned.goes ∙ pick_no _ _ c in
          (p.to, p.width, rw k p.few, rw k (mapped-noted p.mapped x))

      new-entry : is_content (form_of h) && is_name x ≡ true → EntryMap
      new-entry c =
          let k : next.entries ≡ st.entries ++ (turned.y ∷ []) = ap (λ (v : State). v.entries) turned.goes ∙ pick_yes _ _ c in
          let n = (and-true (is_content (form_of h)) (is_name x) c).1 in
          let (v, i) = noted_self x (names_from [] ys) n in
          let l = leb-false 256 (length st.entries) (and_right c turned.passed.entry) in
          let o = length-items st.entries in (
            set p.to (length (items_of st.entries)) v,
            length-set p.to (length (items_of st.entries)) v ∙ p.width,
            rw (k, length-append st.entries (turned.y ∷ [])) (omega arith),
            rw (k, items_snoc st.entries turned.y) (mapped-entry p.mapped x v (omega (arith, o, p.width)) n i),
          )

  pub put_on : (r : Spot) (next' : List ℕ) → r.at ≡ w.at + h.size + content_length h → r.row ≡ w.row + 1
      → PutsAt w.out bytes r.out new next' → Onward s zs u old next' w r
  unfolding after
  put_on r next' ea er q =
      let (to', width, few', mapped) = entry-map in
      record {
        putting =
            record {
              state = next;
              offset = ap (λ (v : State). v.at) turned.goes ∙ omega (arith, ea, p.offset);
              reads = turned.reads;
              to = to';
              width = width;
              few = few';
              mapped = rw (more, names_more ys x) mapped;
              put =
                  record {
                    row = ap length more ∙ length-append ys (x ∷ []) ∙ omega (arith, p.put.row, er);
                    puts = rw more (puts-more plan (length old) ys x later planned few fits w.out
                        r.out old new next' p.put.puts (rw bytes_are at q));
                  };
            };
        ahead = omega (arith, ea, size-within (drop w.at s) h (sym e));
      }
