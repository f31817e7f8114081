-- Lenient reading takes exactly the encodings of items. Assumes nothing.
use Rattle.std.specs.Prelude.{Some, Ok}
use mathlib.Core.Path.{◌≡◌, refl, sym, ap, ◌∙◌, subst}
use mathlib.Core.Logic.{◌≢◌}
use Prim.Native.Nat.{ℕ, zero, suc, ◌+◌, ◌-◌, ◌*◌, ◌^◌, ◌≤◌, ◌<◌, min}
use native.Mathlib.Nat.{add-zero, le_refl, le_trans}
use native.Mathlib.Numerals.{one-add}
use native.Mathlib.Omega.{arith}
use mathlib.Core.Bool.{true, false, not, ◌&&◌}
use mathlib.Core.List.{List, [], ◌∷◌, ◌++◌, append_assoc, append-nil}
use lib.ListN.{length, take, drop, length-append, take-append-drop}
use lib.Seq.{drop-drop, length-take-le}
use lib.Dec.{ltb}
use Rattle.format.specs.Choice.{pick}
use Rattle.format.specs.Limits.{max_entries, max_rows}
use Rattle.format.specs.Answer.{then}
use Rattle.format.specs.Header.{Header, digits, following, header, header_of, is_negative_alias, shift}
use Rattle.format.specs.Utf8.{utf8}
use Rattle.format.specs.Item.{Item, held, is_name, is_text, plain}
use Rattle.format.specs.Place.{fields_of, top}
use Rattle.format.specs.WellFormed.{Byte, Bytes, Follow, May, Within}
use Rattle.format.specs.Reading.{Form, Found, Options, State, after, content, counts, counts_of, fixed, form_of, is_content, item_of, items, items_of, reference, start}
use Rattle.format.specs.Canonical.{full}
use Rattle.format.specs.Encoding as wire
use Rattle.format.specs.Encoding.{Encodes, EncodesAll, Heading, Readable}
use Rattle.format.proofs.Tests.{and_no_left, and_right, cases, clash, eqb_no, equal, leb_yes, ltb-false, ltb_yes, not-false, order, pick_no, pick_yes, some_inj}
use Rattle.format.proofs.Lists.{all_drop, at-items, items_at_lem, length-items}
use Rattle.format.proofs.Numbers.{length_digits}
use Rattle.format.proofs.Headers.{Headed, following_double, following-long, following-short, following-single, following-small, headed_of, header_bytes, header_of-header, header_of_header_bytes, header_with, payload_lt, payload_in, shift-other, shift_zero, shortest, sz_of}
use Rattle.format.proofs.Forms as Forms
use Rattle.format.proofs.Forms.{FormIs, form-is}
use Rattle.format.proofs.Steps.{Reads, Step, done, more, read_items, reads-found, step_left}
use Rattle.format.proofs.WellFormed.{fit-plain, single-lt}
use Rattle.format.proofs.Names.{item_path}
use Rattle.format.proofs.Encoding.{Took, Vacant, entries_grown, entries-same, form-held, grown, sz_zero, took_fixed, took_held, took_reference, took_small}
use Rattle.format.proofs.ReadBack.{Back, back_more, reading-fields, reading-reads, reading_well_formed, reads-reading, took_rows}
use Rattle.format.proofs.Bounds.{reading-entries, reading-within}
use Rattle.format.proofs.Grammar.{grammar_law}
use Rattle.format.proofs.Joins.{items-reading, reading-items}

-- ---- headers

-- A header as it is read.
record Line (code p : ℕ) (hs : List ℕ) : Type 0 where
  sz : ℕ
  sized : code ≡ 0 → 5 ≤ sz
  read : (rest : List ℕ) → header_of (hs ++ rest) ≡ Some (record { code = code; sz = sz; payload = p; size = length hs })

heading_line : {code p : ℕ} {hs : List ℕ} → Heading code p hs → Line code p hs
unfolding header shortest header_bytes header_with payload_in
heading_line {code} {p} (wire.inline l) =
    record {
      sz = sz_of code p;
      sized = λ e. rw e (sz_zero p);
      read = λ rest. subst (λ (hs : List ℕ). header_of (hs ++ rest) ≡ Some
          (record { code = code; sz = sz_of code p; payload = p; size = length hs }))
          (pick_yes _ _ (ltb_yes {a = p + shift code} {b = 24} (omega arith))) (header_of-header code p rest (omega arith));
    }
heading_line {code} {p} (wire.longer {k} one most l) =
    let n : following code (23 + k) ≡ k = following-long code (23 + k) (omega arith) ∙ omega arith in
    record {
      sz = 23 + k;
      sized = λ _. omega arith;
      read = λ rest. rw (length_digits k p, ← one-add k)
          (rw (n, pick_no (23 + k - shift code) p (eqb_no {a = k} {b = 0} (omega arith)))
          at (header_of_header_bytes code (23 + k) p rest (omega arith) (λ _. rw n l)));
    }

-- What is read as a header is one.
line_heading : {bs : List ℕ} {h : Header} → Headed bs h → (h.code ≡ 0 → 5 ≤ h.sz)
    → Heading h.code h.payload (header_bytes h.code h.sz h.payload)
unfolding header_bytes digits
line_heading {bs} {h} d f =
    order 24 h.sz
    (λ l.
    let n = following-long h.code h.sz l in
    let e : h.sz ≡ 23 + (h.sz - 23) = omega arith in
    rw n (subst (λ (k : ℕ). Heading h.code h.payload ((h.code * 32 + k) ∷ digits (h.sz - 23) h.payload)) (sym e)
    (wire.longer (omega arith) (omega (arith, d.small)) (rw n at (d.fits (omega arith))))))
    (λ l.
    let n = following-short h.code h.sz l f in
    let e : h.payload + shift h.code ≡ h.sz =
    rw (d.inside n) (equal h.code 0 (λ (z : h.code ≡ 0). omega (arith, f z, shift_zero h.code z))
    (λ z. omega (arith, shift-other h.code z))) in
    rw n (subst (λ (k : ℕ). Heading h.code h.payload ((h.code * 32 + k) ∷ [])) e (wire.inline (omega arith))))

-- ---- from encodings to reading

full-simple : (k : ℕ) → k < 3 → full (plain k 0) ≡ k ∷ []
unfolding full digits
full-simple k l = pick_yes _ _ (ltb_yes {a = k} {b = 5} (omega arith)) ∙ rw (following-small 0 k refl l)

-- There is space for the entry of a name.
space : (es : List Found) (x : Item) → length (items_of es ++ (x ∷ [])) ≤ max_entries → length es < max_entries
space es x l = omega (arith, length-append (items_of es) (x ∷ []), length-items es)

module _ {o : Options} {s : State} (lax : o.strict ≡ false) (rest : List ℕ) where
  -- An item with no content.
  takes_plain : {c p k n : ℕ} {hs : List ℕ} → Heading c p hs
      → ((sz size : ℕ) → form_of (record { code = c; sz = sz; payload = p; size = size }) ≡ fixed k n)
      → May s.place (plain k n) → Vacant o s → Took o s (plain k n) (hs ++ rest) rest (items_of s.entries)
  takes_plain {k = k} {n} {hs} h f m v =
      let l = heading_line h in
      took_fixed hs rest _ (plain k n) (l.read rest) refl (f l.sz (length hs)) (and_no_left _ lax) refl m v

  -- An item with content.
  takes_held : {c : ℕ} {hs : List ℕ} (bs : List ℕ) → (c ≢ 0 → 4 ≤ c) → c < 7 → Heading c (length bs) hs
      → (is_text (held (c + 5) bs) ≡ true → utf8 bs ≡ true)
      → (is_name (held (c + 5) bs) ≡ true → length s.entries < max_entries)
      → May s.place (held (c + 5) bs) → Vacant o s
      → Took o s (held (c + 5) bs) ((hs ++ bs) ++ rest) rest (grown (held (c + 5) bs) (items_of s.entries))
  takes_held {c} {hs} bs f b h u e m v =
      let l = heading_line h in
      rw (append_assoc hs bs rest)
      (took_held hs rest _ (held (c + 5) bs) (l.read (bs ++ rest)) refl
      (form-held c l.sz (length bs) (length hs) f b l.sized) refl refl (and_no_left _ lax) u (λ z. clash z lax) e m v)

  takes : {x : Item} {bs : List ℕ} {fs : List Item} → Encodes (items_of s.entries) x bs fs → May s.place x
      → Vacant o s → length fs ≤ max_entries → Took o s x (bs ++ rest) rest fs
  unfolding full following form_of pick grown is_name is_text digits
  takes (wire.simple {k} l) m v n =
      let f = fit-plain k 0 (omega arith) (omega arith) (λ _. refl) (λ q. absurd (omega arith)) (omega arith) (λ q. absurd (omega arith)) in
      subst (λ (bs : List ℕ). Took o s (plain k 0) (bs ++ rest) rest (items_of s.entries)) (full-simple k l)
      (took_small (plain k 0) rest (omega arith) f m v)
  takes (wire.float32 {n = k} l) m v n = took_small (plain 3 k) rest (omega arith)
      (fit-plain 3 k (omega arith) (omega arith) (λ q. absurd (omega arith)) (λ _. l) (omega arith)
      (λ q. absurd (omega arith))) m v
  takes (wire.float64 {n = k} l) m v n = took_small (plain 4 k) rest (omega arith)
      (fit-plain 4 k (omega arith) (omega arith) (λ q. absurd (omega arith)) (λ q. absurd (omega arith)) l
      (λ q. absurd (omega arith))) m v
  takes (wire.bytes {c = c} h) m v n = takes_held c (λ e. absurd (e refl)) (omega arith) h (λ z. clash z refl) (λ z. clash z refl) m v
  takes (wire.positive h) m v n = takes_plain h (λ sz size. refl) m v
  takes (wire.negative h) m v n = takes_plain h (λ sz size. refl) m v
  takes (wire.container h) m v n = takes_plain h (λ sz size. refl) m v
  takes (wire.string {c = c} h u) m v n = takes_held c (λ _. omega arith) (omega arith) h (λ _. u) (λ z. clash z refl) m v
  takes (wire.symbol {c = c} h u) m v n = takes_held c (λ _. omega arith) (omega arith) h (λ _. u)
      (λ _. space s.entries (held 10 c) n) m v
  takes (wire.key {c = c} h u) m v n = takes_held c (λ _. omega arith) (omega arith) h (λ _. u) (λ _. space s.entries (held 11 c) n) m v
  takes (wire.reference {i} {x} {h = hs} h e) m v n =
      let l = heading_line h in
      let (y, q, w) = at-items s.entries i e in
      took_reference hs rest _ x y (l.read rest) refl refl q w (and_no_left _ lax) m v

encodes_longer : {es fs : List Item} {x : Item} {bs : List ℕ} → Encodes es x bs fs → length es ≤ length fs
encodes_longer (wire.simple l) = le_refl _
encodes_longer (wire.float32 l) = le_refl _
encodes_longer (wire.float64 l) = le_refl _
encodes_longer (wire.bytes h) = le_refl _
encodes_longer (wire.positive h) = le_refl _
encodes_longer (wire.negative h) = le_refl _
encodes_longer (wire.container h) = le_refl _
encodes_longer (wire.string h u) = le_refl _
encodes_longer {es} (wire.symbol {c = c} h u) = rw (length-append es (held 10 c ∷ [])) (omega arith)
encodes_longer {es} (wire.key {c = c} h u) = rw (length-append es (held 11 c ∷ [])) (omega arith)
encodes_longer (wire.reference h e) = le_refl _

all-longer : {es fs xs : List Item} {bs : List ℕ} → EncodesAll es xs bs fs → length es ≤ length fs
all-longer wire.none = le_refl _
all-longer (wire.more e r) = le_trans (encodes_longer e) (all-longer r)

-- The encoding of items that follow is read.
pub encodes_back : {o : Options} {es fs xs : List Item} {bs : List ℕ} (s : State) → o.strict ≡ false
    → EncodesAll es xs bs fs → items_of s.entries ≡ es → Follow s.place xs
    → length s.found + length xs ≤ min max_rows o.capacity → length fs ≤ max_entries → Back o s xs bs fs
encodes_back s lax wire.none q w r n = record { u = s; reads = done w; found = sym (append-nil (items_of s.found)); entries = q }
encodes_back {o} s lax (wire.more {fs = fs} {x = x} {xs} {bs} {cs} e es) q w r n =
    let p = takes {o = o} {s = s} lax cs (subst (λ (l : List Item). Encodes l x bs fs) (sym q) e) w.0 (omega arith)
    (le_trans (all-longer es) n) in
    let l = took_rows p in
    back_more x xs p (encodes_back p.t lax es p.entries (rw p.place w.1) (omega arith) n)

-- ---- from reading to encodings

-- codes 1 to 3
number_encodes : {es : List Item} {p k n : ℕ} {hs : List ℕ} (c : ℕ) → 1 ≤ c → c ≤ 3 → k ≡ c + 5
    → (c ≡ 2 → n ≡ min p (2 ^ 64 - 2)) → (c ≢ 2 → n ≡ p) → Heading c p hs → Encodes es (plain k n) hs es
number_encodes zero l m e f g h = absurd (omega arith)
number_encodes (suc zero) l m e f g h = rw (e, g (omega arith)) (wire.positive h)
number_encodes (suc (suc zero)) l m e f g h = rw (e, f refl) (wire.negative h)
number_encodes (suc (suc (suc zero))) l m e f g h = rw (e, g (omega arith)) (wire.container h)
number_encodes (suc (suc (suc (suc c)))) l m e f g h = absurd (omega arith)

-- codes 0, and 4 to 6
held_encodes : {es : List Item} {k : ℕ} {hs : List ℕ} (c : ℕ) (bs : List ℕ) → (c ≢ 0 → 4 ≤ c) → c < 7 → k ≡ c + 5
    → (9 ≤ k → utf8 bs ≡ true) → Heading c (length bs) hs
    → Encodes es (held k bs) (hs ++ bs) (grown (held k bs) es)
unfolding grown is_name pick
held_encodes zero bs f l e u h = rw e (wire.bytes h)
held_encodes (suc zero) bs f l e u h = absurd (let m = f (omega arith) in omega arith)
held_encodes (suc (suc zero)) bs f l e u h = absurd (let m = f (omega arith) in omega arith)
held_encodes (suc (suc (suc zero))) bs f l e u h = absurd (let m = f (omega arith) in omega arith)
held_encodes (suc (suc (suc (suc zero)))) bs f l e u h = rw e (wire.string h (u (omega arith)))
held_encodes (suc (suc (suc (suc (suc zero))))) bs f l e u h = rw e (wire.symbol h (u (omega arith)))
held_encodes (suc (suc (suc (suc (suc (suc zero)))))) bs f l e u h = rw e (wire.key h (u (omega arith)))
held_encodes (suc (suc (suc (suc (suc (suc (suc c))))))) bs f l e u h = absurd (omega arith)

fixed_encodes : {es : List Item} {bs : List ℕ} {h : Header} {k n : ℕ} → FormIs h (fixed k n) → Headed bs h
    → Encodes es (plain k n) (header_bytes h.code h.sz h.payload) es
unfolding header_bytes digits is_negative_alias
fixed_encodes {h = h} {k} {n} (Forms.small c l e z) d =
    let q : h.code * 32 + h.sz ≡ k = omega arith in
    rw (following-small h.code h.sz c l, q, z) (wire.simple {k = k} (omega arith))
fixed_encodes {h = h} {k} {n} (Forms.float c l m e z) d =
    equal h.sz 3
    (λ (three : h.sz ≡ 3).
    let q : h.code * 32 + h.sz ≡ 3 = omega arith in
    rw (following-single h.code h.sz c three, q, e ∙ three, z) (wire.float32 (single-lt d c three)))
    (λ (other : h.sz ≢ 3).
    let four : h.sz ≡ 4 = omega arith in
    let q : h.code * 32 + h.sz ≡ 4 = omega arith in
    rw (following_double h.code h.sz c four, q, e ∙ four, z) (wire.float64 (payload_lt d)))
fixed_encodes {h = h} (Forms.number l m e z) d =
    number_encodes h.code l m e z.negative (λ q. z.usual (and_no_left _ (eqb_no q)) (payload_lt d))
    (line_heading d (λ q. absurd (omega arith)))

-- The front of bytes encodes an item.
record Piece (es : List Item) (x : Item) (bs rest : List ℕ) (fs : List Item) : Type 0 where
  front : List ℕ
  split : bs ≡ front ++ rest
  encodes : Encodes es x front fs

content_piece : {bs : List ℕ} {h : Header} {k : ℕ} (es : List Item) → FormIs h (content k) → Headed bs h
    → h.payload ≤ length (drop h.size bs)
    → (9 ≤ k → utf8 (take h.payload (drop h.size bs)) ≡ true)
    → (x : Item) → record { kind = k; number = h.payload; content = take h.payload (drop h.size bs) } ≡ x
    → Piece es x bs (drop (h.size + h.payload) bs) (grown x es)
content_piece {bs} {h} {k} es (Forms.held f g l e) d w u x q =
    let p = h.payload in
    let r = drop h.size bs in
    let hs = header_bytes h.code h.sz p in
    let len : length (take p r) ≡ p = length-take-le p r w in
    subst (λ (y : Item). Piece es y bs (drop (h.size + p) bs) (grown y es)) (item_path refl len refl ∙ q)
    (record {
      front = hs ++ take p r;
      split = d.bytes ∙ ap (λ (y : List ℕ). hs ++ y) (sym (take-append-drop p r)
          ∙ ap (λ (y : List ℕ). take p r ++ y) (drop-drop p h.size bs)) ∙ sym (append_assoc hs (take p r) _);
      encodes = held_encodes {hs = hs} h.code (take p r) g l e u (rw len (line_heading d f));
    })

form_piece : {bs : List ℕ} {h : Header} (f : Form) → FormIs h f → Headed bs h → (at : ℕ) (es : List Found) (x : Found)
    → item_of f h.payload at (drop h.size bs) es ≡ Some x
    → is_content f && ltb (length (drop h.size bs)) h.payload ≡ false
    → is_content f && is_text x.item && not (utf8 x.item.content) ≡ false
    → Piece (items_of es) x.item bs (drop (h.size + pick (is_content f) h.payload 0) bs)
    (pick (is_content f) (grown x.item (items_of es)) (items_of es))
unfolding item_of is_content is_text pick
form_piece {bs} {h} (fixed k n) i d at es x e w t =
    subst (λ (y : Found). Piece (items_of es) y.item bs (drop (h.size + 0) bs) (items_of es)) (some_inj e)
    (record { front = header_bytes h.code h.sz h.payload; split = rw (add-zero h.size) d.bytes; encodes = fixed_encodes i d })
form_piece {bs} {h} (content k) i d at es x e w t =
    let q = some_inj e in
    let u = subst (λ (y : Found). is_text y.item && not (utf8 y.item.content) ≡ false) (sym q) t in
    content_piece (items_of es) i d (ltb-false _ _ w) (λ l. not-false (and_right (leb_yes l) u)) x.item (ap (λ (y : Found). y.item) q)
form_piece {bs} {h} reference (Forms.referred l) d at es x e w t =
    let seven : h.code ≡ 7 = omega (arith, d.codes) in
    record {
      front = header_bytes h.code h.sz h.payload;
      split = rw (add-zero h.size) d.bytes;
      encodes = wire.reference (subst (λ (c : ℕ). Heading c h.payload (header_bytes h.code h.sz h.payload))
          seven (line_heading d (λ q. absurd (omega arith)))) (items_at_lem es h.payload e);
    }

entries-after : (s : State) (h : Header) (y : Found)
    → items_of (after s h (form_of h) y).entries ≡ pick (is_content (form_of h)) (grown y.item (items_of s.entries))
    (items_of s.entries)
entries-after s h y =
    cases (is_content (form_of h)) (λ c. entries_grown s h y y.item refl c ∙ sym (pick_yes _ _ c))
    (λ c. entries-same s h y c ∙ sym (pick_no _ _ c))

step_piece : {o : Options} {s t : State} {bs rest : List ℕ} → Bytes bs → (p : Step o s bs t rest)
    → Piece (items_of s.entries) p.x.item bs rest (items_of t.entries)
step_piece {s = s} {bs = bs} b p =
    rw (step_left p, p.next, entries-after s p.h p.x)
    (form_piece (form_of p.h) (form-is p.h) (headed_of bs p.h b p.headed) _ s.entries p.x p.meant
    p.passed.whole p.passed.text)

-- What was read encodes its items.
pub reads_encodes : {o : Options} {s u : State} {bs : List ℕ} (r : Reads o s bs u) → Bytes bs
    → EncodesAll (items_of s.entries) (read_items r) bs (items_of u.entries)
unfolding read_items
reads_encodes (done e) b = wire.none
reads_encodes (more {s = s} {t = t} {bs = bs} p r) b =
    let q = step_piece b p in
    rw q.split (wire.more q.encodes (reads_encodes r (rw p.left (all_drop Byte (t.at - s.at) bs b))))

-- ---- a bundle

-- Bytes that read are readable, and readable bytes read.
pub readable : (o : Options) {xs : List Item} (bs : List ℕ) → Bytes bs → items o bs ≡ Ok xs → Readable o.capacity bs xs
unfolding start items_of
readable o {xs} bs b e =
    let (u, p, q) = items-reading o bs e in
    let (l, r) = reading-reads {o = o} bs p in
    let w = subst (Within o.capacity) q (reading-within o bs p) in
    record {
      entries = items_of u.entries;
      encoded = subst (λ (ys : List Item). EncodesAll [] ys bs (items_of u.entries)) (sym (reads-found r) ∙ q) (reads_encodes r b);
      fields = fields_of xs;
      grammar = (grammar_law xs).parses (subst (Follow top) q (reading_well_formed o bs b p).follow);
      size = l;
      rows = w.rows;
      table = w.table;
      few = reading-entries o bs p;
    }

readable_back : (o : Options) {xs : List Item} {bs : List ℕ} → o.strict ≡ false → (r : Readable o.capacity bs xs)
    → Back o start xs bs r.entries
unfolding start items_of
readable_back o {xs} lax r = encodes_back start lax r.encoded refl ((grammar_law xs).accepts r.grammar).0
    (omega (arith, r.rows, r.table)) r.few

pub readable_items : (o : Options) {xs : List Item} {bs : List ℕ} → o.strict ≡ false → Readable o.capacity bs xs → items o bs ≡ Ok xs
unfolding start items_of
readable_items o {bs = bs} lax r = let k = readable_back o lax r in reading-items o bs (reads-reading r.size k.reads) k.found

pub readable_counts : (o : Options) {xs : List Item} {bs : List ℕ} → o.strict ≡ false → (r : Readable o.capacity bs xs)
    → counts o bs ≡ Ok (record { rows = length xs; entries = length r.entries; fields = r.fields })
unfolding counts counts_of then start items_of
readable_counts o {xs} {bs} lax r =
    let k = readable_back o lax r in
    let e = reads-reading r.size k.reads in
    let rows : length k.u.found ≡ length xs = sym (length-items k.u.found) ∙ ap length k.found in
    let entries : length k.u.entries ≡ length r.entries = sym (length-items k.u.entries) ∙ ap length k.entries in
    let fields : k.u.place.fields ≡ r.fields = reading-fields o bs e ∙ ap fields_of k.found
    ∙ ((grammar_law xs).accepts r.grammar).1 in
    rw e (λ j. Ok (record { rows = rows j; entries = entries j; fields = fields j }))
