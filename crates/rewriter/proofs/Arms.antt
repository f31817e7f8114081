-- What the item of a turn is, by the code of its header: its kind, and how it stands in full. Assumes nothing.
use Rattle.std.specs.Prelude.{Some}
use mathlib.Core.Path.{◌≡◌, refl, sym, ap, ◌∙◌}
use mathlib.Core.Bool.{true, false, ◌&&◌}
use mathlib.Core.List.{List, [], ◌++◌, append-nil}
use Prim.Native.Nat.{ℕ, ◌+◌, ◌-◌, ◌^◌, ◌≤◌, ◌<◌, min, suc}
use native.Mathlib.Nat.{add-zero}
use native.Mathlib.Omega.{arith}
use lib.Dec.{leb, ltb, eqb}
use lib.ListN.{length, take, drop, length-append}
use lib.Seq.{length-take-le}
use Rattle.format.specs.declared.header.Header.{Header}
use Rattle.format.specs.Choice.{pick}
use Rattle.format.specs.Header.{header, header_of, digits, following, shift, width, width_from}
use Rattle.format.specs.Item.{is_name, is_text}
use Rattle.format.specs.Utf8.{utf8}
use Rattle.format.specs.Reading.{Found, State, lenient, fixed, content, form_of, is_content}
use Rattle.format.specs.Canonical.{full}
use Rattle.format.proofs.Tests.{cases, clash, equal, order, eqb_yes, eqb-true, leb-true, leb_yes, leb_no, ltb-false, and-true, and_right, and_yes, not-false}
use Rattle.format.proofs.Headers.{following-none, header-size, header-inside}
use Rattle.format.proofs.Forms.{form-bytes, form-text}
use Rattle.format.proofs.Turns.{Turn, form-read, flat_ends, flat_kept, fixed-is, content-is, content-inside, content-ends, content-kept}
use Rattle.format.proofs.Encoding.{full-other}
use Rattle.format.proofs.Names.{item_path}
use Rattle.symbols.specs.Entry.{name}
use Rattle.wire.specs.Numbers.{number_of}
use Rattle.wire.proofs.OutputLaws.{header-short}
use Rattle.wire.proofs.CodeLaws.{form-number}
use Rattle.encoder.proofs.Lengths.{length-fixed}
use Rattle.rewriter.specs.Items.{sized}

-- ---- codes

pub fixed-code : (c z : ℕ) → eqb c 0 && ltb z 5 ≡ true → (c ≡ 0) × (z < 5)
fixed-code c z e = let (l, u) = and-true (eqb c 0) (ltb z 5) e in (eqb-true c 0 l, leb-true (suc z) 5 u)

-- ---- forms

module _ (h : Header) where
  -- no number, no fixed type and no reference: content follows
  pub form-held : leb 1 h.code && leb h.code 3 ≡ false → eqb h.code 0 && ltb h.sz 5 ≡ false → h.code < 7
      → form_of h ≡ content (h.code + 5)
  form-held n f l =
      order 4 h.code (λ g. form-text h g (omega arith))
      (λ g. equal h.code 0
      (λ z. form-bytes h z (ltb-false _ _ (and_right (eqb_yes z) f)) ∙ ap (λ (c : ℕ). content (c + 5)) (sym z))
      (λ z. clash (and_yes (leb_yes {a = 1} {b = h.code} (omega arith)) (leb_yes {a = h.code} {b = 3} (omega arith))) n))

-- ---- headers

-- What stands in one byte stays in one byte.
pub one_byte : (bs : List ℕ) (h : Header) → Some h ≡ header_of bs → h.size ≡ 1 → 1 ≡ length (header h.code h.payload)
unfolding shift pick
one_byte bs h e o =
    let z : following h.code h.sz ≡ 0 = omega (arith, header-size bs h (sym e)) in
    let l = following-none h.code h.sz z in
    let p = header-inside bs h (sym e) z in
    let short : h.payload + shift h.code < 24 = cases (eqb h.code 0)
    (λ c. rw c (let q = rw c at p in omega arith)) (λ c. rw c (let q = rw c at p in omega arith)) in
    sym (ap length (header-short h.code h.payload short))

-- The negative alias and the least integer have headers of one length.
pub number-length : (code p : ℕ) → p < 2 ^ 64 → length (header code p) ≡ length (header code (number_of code p))
unfolding number_of pick header width width_from digits shift
number-length code p l =
    order p (2 ^ 64 - 2)
    (λ m. let q : min p (2 ^ 64 - 2) ≡ p = omega arith in rw q (cases (eqb code 2) (λ c. rw c) (λ c. rw c)))
    (λ m. let q : p ≡ 2 ^ 64 - 1 = omega arith in cases (eqb code 2) (λ c. rw (q, eqb-true code 2 c)) (λ c. rw c))

-- ---- items

module _ {s : List ℕ} {a u : State} {h : Header} (w : Turn lenient s a u h) where
  -- an item that makes no entry, and whose content, if it has some, ends where the next item begins
  pub record Plain (n : ℕ) : Type 0 where
    pub no_name : is_name w.y.item ≡ false
    pub ends : w.next.at ≡ a.at + h.size + n
    pub kept : w.next.entries ≡ a.entries

  -- ---- with a kind and a number

  module _ (k n : ℕ) (e : form_of h ≡ fixed k n) where
    bare : w.y.item ≡ record { kind = k; number = n; content = [] }
    bare = ap (λ (z : Found). z.item) (fixed-is w e)

    bare_plain : k < 10 → Plain 0
    unfolding is_content is_name
    bare_plain l =
        record {
          no_name = ap is_name bare ∙ leb_no {a = 10} {b = k} l;
          ends = flat_ends w e refl
              ∙ sym (add-zero _);
          kept = flat_kept w e refl;
        }

  module _ (lo : 1 ≤ h.code) (hi : h.code ≤ 3) where
    pub number-plain : Plain 0
    number-plain = bare_plain _ _ (form-number h lo hi) (omega arith)

    pub number-full : full w.y.item ≡ header h.code (number_of h.code h.payload)
    number-full =
        let c : h.code + 5 - 5 ≡ h.code = omega arith in
        rw (bare _ _ (form-number h lo hi))
        (full-other (record { kind = h.code + 5; number = number_of h.code h.payload; content = [] })
        (omega arith) ∙ append-nil _ ∙ ap (λ (k : ℕ). header k (number_of h.code h.payload)) c)

  module _ (zero : h.code ≡ 0) (lo : h.sz < 5) where
    pub fixed_plain : Plain 0
    fixed_plain = bare_plain _ _ (form-read w zero lo) (omega arith)

    pub fixed-full : full w.y.item ≡ full (record { kind = h.sz; number = h.payload; content = [] })
    fixed-full = ap full (bare _ _ (form-read w zero lo))

    pub fixed-length : h.size ≡ length (full w.y.item)
    fixed-length =
        header-size _ h w.headed ∙ ap (λ (c : ℕ). 1 + following c h.sz) zero
        ∙ length-fixed (record { kind = h.sz; number = h.payload; content = [] }) (following 0 h.sz) lo refl
        ∙ ap length (sym fixed-full)

  -- ---- with content

  module _ (e : form_of h ≡ content (h.code + 5)) where
    part : w.y.item ≡ record { kind = h.code + 5; number = h.payload; content = take h.payload (drop (a.at + h.size) s) }
    part = ap (λ (z : Found). z.item) (content-is w e)

    pub content-full : full w.y.item ≡ sized s (a.at + h.size) h
    unfolding sized
    content-full =
        let c : h.code + 5 - 5 ≡ h.code = omega arith in
        rw part (full-other _ (omega arith) ∙ ap (λ (k : ℕ). header k h.payload ++ take h.payload (drop (a.at + h.size) s)) c)

    pub content-plain : h.code < 5 → Plain h.payload
    unfolding is_name
    content-plain l = let n = ap is_name part ∙ leb_no {a = 10} {b = h.code + 5} (omega arith) in
        record { no_name = n; ends = content-ends w e; kept = content-kept w e n }

    pub content-length : length (header h.code h.payload) + h.payload ≡ length (full w.y.item)
    unfolding sized
    content-length =
        omega (arith, ap length content-full ∙ length-append (header h.code h.payload) (take h.payload (drop (a.at + h.size) s)), length-take-le h.payload (drop (a.at + h.size) s) (content-inside w e))

    -- a name in full
    module _ (lo : 5 ≤ h.code) where
      pub name-is : is_name w.y.item ≡ true
      unfolding is_name
      name-is = ap is_name part ∙ leb_yes {a = 10} {b = h.code + 5} (omega arith)

      pub name_part : w.y.item ≡ name (h.code + 5) (take h.payload (drop (a.at + h.size) s))
      name_part = part ∙ item_path refl (sym (length-take-le h.payload (drop (a.at + h.size) s) (content-inside w e))) refl

      pub name-text : utf8 w.y.item.content ≡ true
      unfolding is_content is_text
      name-text = not-false (and_right
          (and_yes (ap is_content e) (ap is_text part ∙ leb_yes {a = 9} {b = h.code + 5} (omega arith))) w.passed.text)
