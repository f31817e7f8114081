-- One item more of a bundle that is measured, by the code of its header. Assumes nothing.
use Rattle.std.specs.Prelude.{Option, None, Some, slice_get}
use mathlib.Core.Path.{◌≡◌, refl, sym, ap, ◌∙◌, subst}
use mathlib.Core.Bool.{true}
use mathlib.Core.List.{List, [], ◌∷◌, ◌++◌, append_assoc}
use Prim.Native.Nat.{ℕ, ◌+◌, ◌-◌, ◌≤◌, ◌<◌, ◌^◌}
use native.Mathlib.Omega.{arith}
use lib.ListN.{length, take, drop, get_or, set, length-set, length-append, length-drop}
use lib.Seq.{get_or-set_same, get_or-set_other, length-take-le}
use Rattle.format.specs.declared.header.Header.{Header}
use Rattle.format.specs.Header.{header, header_of}
use Rattle.format.specs.Item.{Item, is_name}
use Rattle.format.specs.Names.{index, names_from, noted}
use Rattle.format.specs.Reading.{State, after, content, form_of, is_content, items_of, lenient}
use Rattle.format.specs.Canonical.{full}
use Rattle.format.proofs.Lists.{items_at_lem, items_snoc, length-items}
use Rattle.format.proofs.Names.{index_at, index-last, names-append, names-longer, noted-fresh, noted-known}
use Rattle.format.proofs.Headers.{size-within}
use Rattle.format.proofs.Encoding.{at_lt}
use Rattle.format.proofs.Forms.{form-reference, form-text}
use Rattle.format.proofs.Turns.{Turn, turn, header-within, items-all, items_more, flat_ends, flat_kept, reference-is, content-inside, content-ends, name-room, name-entry}
use Rattle.symbols.specs.Entry.{Part, name}
use Rattle.symbols.specs.declared.names.Names.{Names}
use Rattle.symbols.specs.Names.{Entered, names_of}
use Rattle.symbols.proofs.ChainLaws.{length_names}
use Rattle.encoder.specs.Plan.{Measured}
use Rattle.encoder.proofs.Lengths.{header-most}
use Rattle.encoder.proofs.MeasureLaws.{measure_plain, measure_known, measure_fresh, names_more}
use Rattle.rewriter.specs.declared.measuring.Tally.{Tally}
use Rattle.rewriter.specs.Measuring.{tallied, Alike, Mapped, Bundled, Partway, Further, Here, Over}
use Rattle.rewriter.proofs.MapLaws.{mapped-noted, mapped-entry}
use Rattle.rewriter.proofs.Arms.{Plain, name-is, name_part, name-text, content-length}

pub alike_self : {names : Names} → Alike names names
alike_self = record { first = refl; second = refl }

-- the same table
pub alike_same : {old new : Names} → new ≡ old → Alike old new
alike_same e = record { first = ap (λ (t : Names). t.first.now) e; second = ap (λ (t : Names). t.second.now) e }

module _ {names : Names} {s : List ℕ} {side : ℕ} {zs : List Item} {u : State} (w : Bundled names s side zs u)
    {to plan : List ℕ} {t : Tally} (p : Partway names s zs u to plan t)
    {h : Header} (e : Some h ≡ header_of (drop t.at s)) where
  pub turned : Turn lenient s p.state u h
  turned = turn s p.reads (rw p.offset e)

  abbrev st : State
  st = p.state

  abbrev next : State
  next = turned.next

  abbrev x : Item
  x = turned.y.item

  abbrev ys : List Item
  ys = zs ++ items_of st.found

  more : zs ++ items_of next.found ≡ ys ++ (x ∷ [])
  more = items_more turned zs

  long : length ys ≡ length zs + length st.found
  long = length-append zs (items_of st.found) ∙ ap (λ (n : ℕ). length zs + n) (length-items st.found)

  whole : zs ++ items_of u.found ≡ ys ++ (x ∷ turned.later)
  whole = items-all turned zs

  pub room : t.row < 1024
  room =
      omega (arith, w.room, long, p.row, length-items u.found, ap length turned.all ∙ length-append (items_of st.found) (x ∷ turned.later), length-items st.found)

  lt : length ys < 1024
  lt = omega (arith, room, p.row)

  pub small : t.size + 16393 < 2 ^ 64
  small = omega (arith, room, p.small)

  -- the header ends within the bytes
  pub inside : t.at + h.size ≤ length s
  inside = omega (arith, p.offset, header-within turned)

  pub forward : t.at < t.at + h.size
  forward = omega (arith, size-within _ h (sym e))

  module _ {names' : Names} {to' plan' : List ℕ} {r : Tally} (at entries n : ℕ) (is : r ≡ tallied t at entries n) (little : n ≤ 16393)
      (ends : next.at ≡ at) (olds : length next.entries ≡ entries) (few : entries ≤ 256) (width : length to' ≡ 256)
      (mapped : Mapped (items_of next.entries) to' (noted x (names_from [] ys)))
      (measured : Measured 1024 names' plan' (ys ++ (x ∷ [])) (t.size + n)) (alike : Alike names names') where
    onward : Further names names' s zs u to' plan' t r
    unfolding tallied after
    onward =
        rw is
        (record {
          partway = record {
            state = next;
            offset = ends;
            reads = turned.reads;
            entries = olds;
            few = few;
            width = width;
            mapped = rw (more, names_more ys x) mapped;
            row = ap length more ∙ length-append ys (x ∷ []) ∙ ap (λ (k : ℕ). k + 1) p.row;
            small = omega (arith, p.small);
            measured = rw more measured;
          };
          ahead = omega (arith, forward, ends, p.offset, ap (λ (v : State). v.at) turned.goes);
          alike = alike;
        })

  -- ---- what is no name

  pub plain-on : {r : Tally} (at k n : ℕ) → at ≡ t.at + h.size + k → Plain turned k → n ≡ length (full x) → n ≤ 16393
      → r ≡ tallied t at t.entries n → Further names names s zs u to plan t r
  plain-on at k n ea q en l is =
      onward _ _ n is l (q.ends ∙ ap (λ (m : ℕ). m + h.size + k) p.offset ∙ sym ea) (ap length q.kept
      ∙ p.entries) p.few p.width (rw q.kept (mapped-noted p.mapped x))
      (measure_plain p.measured x lt n q.no_name en) alike_self

  -- ---- a name that has an index

  names-count : length (names_from [] ys) ≡ names.count
  names-count = ap length (sym p.measured.names) ∙ length_names names

  known-measured : (i : ℕ) → is_name x ≡ true → index x (names_from [] ys) ≡ Some i
      → Measured 1024 names (set plan t.row i) (ys ++ (x ∷ [])) (t.size + length (header 7 i))
  known-measured i n k =
      subst (λ (j : ℕ). Measured 1024 names (set plan j i) (ys ++ (x ∷ [])) (t.size + length (header 7 i))) p.row
      (measure_known p.measured x lt i (length (header 7 i)) n k refl)

  -- ---- a reference

  module _ (hi : 7 ≤ h.code) where
    entry : slice_get (items_of st.entries) h.payload ≡ Some x
    entry = items_at_lem st.entries h.payload (reference-is turned (form-reference h hi))

    pub reference-small : h.payload < 256
    reference-small = omega (arith, at_lt st.entries h.payload (reference-is turned (form-reference h hi)), p.entries, p.few)

    pub reference-on : {r : Tally}
        → r ≡ tallied t (t.at + h.size) t.entries (length (header 7 (get_or to h.payload 0)))
        → Further names names s zs u to (set plan t.row (get_or to h.payload 0)) t r
    unfolding is_content
    reference-on is =
        let (n, k) = p.mapped.at h.payload x entry in
        let l = at_lt (names_from [] ys) (get_or to h.payload 0) (index_at x (names_from [] ys) k).at in
        onward _ _ _ is (omega (
          arith,
          header-most 7 (get_or to h.payload 0)
              (omega (arith, l, names-count, names.chained.table.few)),
        ))
        (flat_ends turned (form-reference h hi) refl ∙ ap (λ (m : ℕ). m + h.size) p.offset)
        (ap length (flat_kept turned (form-reference h hi) refl) ∙ p.entries) p.few p.width
        (rw (flat_kept turned (form-reference h hi) refl) (mapped-noted p.mapped x))
        (known-measured (get_or to h.payload 0) n k) alike_self

  -- ---- content

  module _ (f : form_of h ≡ content (h.code + 5)) where
    pub content-within : t.at + h.size + h.payload ≤ length s
    content-within = omega (arith, content-inside turned f, length-drop (st.at + h.size) s, p.offset, inside)

    pub held_small : h.payload ≤ 16384
    held_small = omega (arith, content-within, w.short)

  -- ---- a name in full

  module _ (f : form_of h ≡ content (h.code + 5)) (lo : 5 ≤ h.code) where
    abbrev bytes : List ℕ
    bytes = take h.payload (drop (t.at + h.size) s)

    bytes-at : take h.payload (drop (st.at + h.size) s) ≡ bytes
    bytes-at = ap (λ (n : ℕ). take h.payload (drop (n + h.size) s)) p.offset

    named : x ≡ name (h.code + 5) bytes
    named = name_part turned f lo ∙ ap (name (h.code + 5)) bytes-at

    length-bytes : length bytes ≡ h.payload
    length-bytes = length-take-le h.payload (drop (t.at + h.size) s) (omega (arith, content-within f, length-drop (t.at + h.size) s))

    pub name-stands : h.code ≤ 6 → Part names.first.now names.second.now (h.code + 5) side (t.at + h.size) bytes
    name-stands hi =
        record {
          low = omega arith;
          high = omega arith;
          sides = w.sides;
          short = omega (arith, length-bytes, content-within f, w.short);
          near = omega (arith, inside, w.short);
          inside = rw w.which (omega (arith, length-bytes, content-within f));
          is = rw (w.which, length-bytes) refl;
        }

    pub name-old : t.entries < 256
    name-old = omega (arith, name-room turned f (name-is turned f lo), p.entries)

    module _ {names' : Names} {plan' : List ℕ} {r : Tally} (v n : ℕ)
        (is : r ≡ tallied t (t.at + h.size + h.payload) (t.entries + 1) n) (little : n ≤ 16393)
        (known : index x (noted x (names_from [] ys)) ≡ Some v)
        (measured : Measured 1024 names' plan' (ys ++ (x ∷ [])) (t.size + n)) (alike : Alike names names') where
      entry-on : Further names names' s zs u (set to t.entries v) plan' t r
      entry-on =
          onward _ _ n is little (content-ends turned f ∙ ap (λ (m : ℕ). m + h.size + h.payload) p.offset)
          (ap length (name-entry turned f (name-is turned f lo)) ∙ length-append st.entries (turned.y ∷ [])
          ∙ ap (λ (k : ℕ). k + 1) p.entries) (omega (arith, name-old)) (length-set to t.entries v ∙ p.width)
          mapped measured alike
        where
          olds : length (items_of st.entries) ≡ t.entries
          olds = length-items st.entries ∙ p.entries

          mapped : Mapped (items_of next.entries) (set to t.entries v) (noted x (names_from [] ys))
          mapped =
              subst (λ (l : List Item). Mapped l (set to t.entries v) (noted x (names_from [] ys)))
              (sym (ap items_of (name-entry turned f (name-is turned f lo)) ∙ items_snoc st.entries turned.y))
              (subst (λ (k : ℕ). Mapped (items_of st.entries ++ (x ∷ [])) (set to k v) (noted x (names_from [] ys))) olds
              (mapped-entry p.mapped x v (omega (arith, olds, name-old, p.width)) (name-is turned f lo) known))

    -- looked up by its bytes
    looked_up : {o : Option ℕ} → index (name (h.code + 5) bytes) (names_of names) ≡ o → index x (names_from [] ys) ≡ o
    looked_up q = ap (λ (z : Item). index z (names_from [] ys)) named ∙ ap (index (name (h.code + 5) bytes)) (sym p.measured.names) ∙ q

    pub known_on : {r : Tally} (i : ℕ) → index (name (h.code + 5) bytes) (names_of names) ≡ Some i → i < 256
        → r ≡ tallied t (t.at + h.size + h.payload) (t.entries + 1) (length (header 7 i))
        → Further names names s zs u (set to t.entries i) (set plan t.row i) t r
    known_on i q l is =
        let k = looked_up q in
        entry-on i _ is (omega (arith, header-most 7 i (omega arith)))
        (rw (noted-known x (names_from [] ys) k) k) (known-measured i (name-is turned f lo) k) alike_self

    pub fresh_on : {names' : Names} {r : Tally} → Entered names names' (name (h.code + 5) bytes) (t.at + h.size)
        → r ≡ tallied t (t.at + h.size + h.payload) (t.entries + 1) (length (header h.code h.payload) + h.payload)
        → Further names names' s zs u (set to t.entries names.count) (set plan t.row 256) t r
    fresh_on g is =
        let k = looked_up g.new in
        let most = header-most h.code h.payload (omega (arith, content-within f, w.short)) in
        entry-on names.count _ is (omega (arith, most, content-within f, w.short))
        (rw (noted-fresh x (names_from [] ys) (name-is turned f lo) k) (index-last x (names_from [] ys) k ∙ ap Some names-count))
        (measure_fresh p.measured x lt (set plan t.row 256) _ (name-is turned f lo) (rw (← named) at g)
        (name-text turned f lo) (content-length turned f)
        (length-set plan t.row 256 ∙ p.measured.plan_size)
        (λ j l. get_or-set_other plan t.row j 256 0 (λ q. omega (arith, p.row)))
        (subst (λ (j : ℕ). get_or (set plan t.row 256) j 0 ≡ 256) (sym p.row)
        (get_or-set_same plan t.row 256 0 (omega (arith, room, p.measured.plan_size)))))
        (record { first = g.grown.first; second = g.grown.second })

    pub full-over : index (name (h.code + 5) bytes) (names_of names) ≡ None → 256 ≤ names.count → Over zs u
    full-over q l =
        let k = looked_up q in
        let n : names_from [] (ys ++ (x ∷ [])) ≡ names_from [] ys ++ (x ∷ []) = names_more ys x
        ∙ noted-fresh x (names_from [] ys) (name-is turned f lo) k in
        let m : length (names_from [] (ys ++ (x ∷ []))) ≡ names.count + 1 = ap length n
        ∙ length-append (names_from [] ys) (x ∷ []) ∙ ap (λ (j : ℕ). j + 1) names-count in
        let g = names-longer (names_from [] (ys ++ (x ∷ []))) turned.later in
        let all : names_from [] (zs ++ items_of u.found) ≡ names_from (names_from [] (ys ++ (x ∷ []))) turned.later =
        ap (names_from []) (whole ∙ sym (append_assoc ys (x ∷ []) turned.later)) ∙ names-append [] (ys ++ (x ∷ [])) turned.later in
        rw all (omega (arith, g, m))

-- ---- what the code needs of a name in full

pub record NameHere (names : Names) (s : List ℕ) (side : ℕ) (t : Tally) (h : Header) : Type 0 where
  pub form : form_of h ≡ content (h.code + 5)
  pub room : t.row < 1024
  pub small : t.size + 16393 < 2 ^ 64
  pub within : t.at + h.size + h.payload ≤ length s
  pub short : length s ≤ 16384
  pub old : t.entries < 256
  pub count : t.at + h.size + h.payload - (t.at + h.size) ≡ h.payload
  pub part : Part names.first.now names.second.now (h.code + 5) side (t.at + h.size)
      (take (t.at + h.size + h.payload - (t.at + h.size)) (drop (t.at + h.size) s))

pub name_here : {names : Names} {s : List ℕ} {side : ℕ} {to plan : List ℕ} {t : Tally} {h : Header}
    → Here names s side to plan t × (Some h ≡ header_of (drop t.at s)) × (5 ≤ h.code) × (h.code ≤ 6)
    → NameHere names s side t h
name_here {t} {h} (k, e, lo, hi) =
    let f = form-text h (omega arith) hi in
    let d : t.at + h.size + h.payload - (t.at + h.size) ≡ h.payload = omega arith in
    record {
      form = f;
      room = room k.bundled k.partway e;
      small = small k.bundled k.partway e;
      within = content-within k.bundled k.partway e f;
      short = k.bundled.short;
      old = name-old k.bundled k.partway e f lo;
      count = d;
      part = rw d (name-stands k.bundled k.partway e f lo hi);
    }
