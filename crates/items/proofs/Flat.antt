-- Items with no content of their own (fixed kinds, containers, references): what each answer means. Assumes nothing.
use Rattle.items.specs.declared.item.Refusal.TheVariants as refusal
use Rattle.std.specs.Prelude.{Ok, Err}
use Rattle.std.specs.Prelude.{Some}
use mathlib.Core.Path.{◌≡◌, refl, ap, sym, ◌∙◌}
use mathlib.Core.Logic.{◌≢◌}
use mathlib.Core.Bool.{true, false, ◌&&◌}
use mathlib.Core.List.{List, [], ◌∷◌}
use Prim.Native.Nat.{ℕ, ◌+◌, ◌≤◌, ◌<◌}
use native.Mathlib.Omega.{arith}
use lib.Dec.{leb, ltb, eqb}
use lib.ListN.{length, drop, get_or, length-append}
use Rattle.format.specs.declared.header.Header.{Header}
use Rattle.format.specs.declared.header.FieldCount.{FieldCount}
use Rattle.format.specs.declared.error.Error.TheVariants.{TooDeep, UndefinedReference, UnexpectedKey}
use Rattle.format.specs.Choice.{pick}
use Rattle.format.specs.Limits.{max_depth}
use Rattle.format.specs.Answer.{fail}
use Rattle.format.specs.Kind as Kind
use Rattle.format.specs.Item.{Item, is_key, is_container}
use Rattle.format.specs.Place.{Place, key_after_key, is_too_deep, ended, moved}
use Rattle.format.specs.Reading.{Options, State, Found, Form, fixed, reference, form_of, is_content, item_of, after, headed}
use Rattle.format.proofs.Tests.{cases, eqb_yes, eqb_no, leb_yes, leb_no, ltb_yes, ltb_no, and_no_left, and_no_right, and_yes, pick_yes, pick_no}
use Rattle.symbols.specs.Entry.{kind_in, name_in}
use Rattle.items.specs.declared.item.Out.TheVariants as out
use Rattle.items.specs.Judging.{Goes, Judged, Case, spot}
use Rattle.items.proofs.Ladder.{later, to_later, missing, by_row, not_key, not-container, is-container}
use Rattle.format.proofs.Forms.{form-fixed, form-container, form-reference}
use Rattle.symbols.specs.Entries.{found_in}
use Rattle.symbols.proofs.Entries.{entry-none, entry-is}
use Rattle.wire.specs.Numbers.{number_of}
use Rattle.wire.proofs.CodeLaws.{code-within, form-number}

-- ---- the place after an item

pub ended-keyed : (ks : List ℕ) (f : ℕ) → (ended ks f).keyed ≡ false
unfolding ended
ended-keyed [] f = refl
ended-keyed (n ∷ ns) f =
    cases (ltb n 2)
    (λ e. ap (λ (p : Place). p.keyed) (pick_yes _ _ e) ∙ ended-keyed ns f)
    (λ e. ap (λ (p : Place). p.keyed) (pick_no _ _ e))

module _ (p : Place) (x : Item) where
  pub moved-key : is_key x ≡ true → moved p x ≡ spot p.opened true p.fields
  unfolding moved
  moved-key e = pick_yes _ _ e

  pub moved_value : is_key x ≡ false → is_container x && ltb 0 x.number ≡ false → moved p x ≡ ended p.opened p.fields
  unfolding moved
  moved_value e g = pick_no _ _ e ∙ pick_no _ _ g

  pub moved-held : is_key x ≡ false → is_container x && ltb 0 x.number ≡ true → moved p x ≡ spot (x.number ∷ p.opened) false p.fields
  unfolding moved
  moved-held e g = pick_no _ _ e ∙ pick_yes _ _ g

-- ---- an item with no content

module _ {s es : List ℕ} {at names keyed next : ℕ} {h : Header} {o : Options} {a : State} (bs : List ℕ)
    (cs : Case s es at names keyed next h o a)
    (f : Form) (ef : form_of h ≡ f) (flat : is_content f ≡ false)
    (x : Found) (ex : item_of f h.payload (a.at + h.size) (drop h.size bs) a.entries ≡ Some x) where
  at_later : headed o a (Some h) bs ≡ later o a h f (drop h.size bs) x.item (after a h f x)
  at_later = to_later o a h bs f ef cs.short x ex

  pub flat_again : key_after_key a.place x.item ≡ true → headed o a (Some h) bs ≡ fail UnexpectedKey a.at
  flat_again e = at_later ∙ pick_yes _ _ e

  pub flat_deep : key_after_key a.place x.item ≡ false → is_too_deep a.place x.item ≡ true
      → headed o a (Some h) bs ≡ fail TooDeep a.at
  flat_deep k e = at_later ∙ pick_no _ _ k ∙ pick_yes _ _ e

  pub flat_goes : key_after_key a.place x.item ≡ false → is_too_deep a.place x.item ≡ false → (b : ℕ) (p : Place)
      → moved a.place x.item ≡ p → p.keyed ≡ eqb b 1
      → Goes o s es next names b p a (headed o a (Some h) bs)
  unfolding after
  flat_goes key deep b p e k =
      record {
        next = after a h f x;
        is = at_later ∙ by_row o a h f (drop h.size bs) x.item (after a h f x) key deep flat;
        stands =
            record {
              offset = rw (flat, pick_no {b = false} h.payload 0 refl) (omega (arith, cs.stands.offset, cs.size));
              key = ap (λ (v : Place). v.keyed) e ∙ k;
              entries = pick_no _ _ (and_no_left _ flat) ∙ cs.stands.entries;
            };
        place = e;
        row = length-append a.found (x ∷ []);
      }

-- ---- fixed kinds

abbrev pub bare : ℕ → ℕ → Found
bare k n = record { item = record { kind = k; number = n; content = [] }; start = 0 }

-- A header of a kind with nothing to judge.
pub record Plain (h : Header) : Type 0 where
  pub kind : ℕ
  pub number : ℕ
  pub form : form_of h ≡ fixed kind number
  pub small : kind ≤ 7

pub fixed-value : {s es : List ℕ} {at names keyed next : ℕ} {h : Header} {o : Options} {a : State} (bs : List ℕ)
    → Case s es at names keyed next h o a → Plain h
    → Judged o s es names a (headed o a (Some h) bs) (Ok (out.Value next))
unfolding item_of is_content
fixed-value {a = a} bs cs p =
    let x = (bare p.kind p.number).item in
    let key : is_key x ≡ false = not_key x (λ e. omega (arith, p.small)) in
    let box : is_container x ≡ false = not-container x (λ e. omega (arith, p.small)) in
    flat_goes bs cs _ p.form refl (bare p.kind p.number) refl (and_no_right a.place.keyed key)
    (and_no_left _ box) 0 _ (moved_value a.place x key (and_no_left _ box)) (ended-keyed _ _)

pub plain-small : (h : Header) → h.code ≡ 0 → h.sz < 5 → Plain h
plain-small h e l = record { kind = h.sz; number = pick (ltb h.sz 3) 0 h.payload; form = form-fixed h e l; small = omega arith }

pub plain-integer : (h : Header) → leb 1 h.code && leb h.code 2 ≡ true → Plain h
plain-integer h e =
    let w = code-within 1 2 h.code e in
    record {
      kind = h.code + 5;
      number = number_of h.code h.payload;
      form = form-number h (omega arith) (omega arith);
      small = omega arith;
    }

-- ---- containers

module _ {s es : List ℕ} {at names keyed next : ℕ} {h : Header} {o : Options} {a : State} (bs : List ℕ)
    (cs : Case s es at names keyed next h o a) (code : h.code ≡ 3) where
  box : Item
  box = (bare 8 h.payload).item

  box_key : is_key box ≡ false
  unfolding box
  box_key = not_key box (λ e. omega arith)

  box_is : is_container box ≡ true
  unfolding box
  box_is = is-container box refl

  pub container-deep : max_depth ≤ length a.place.opened → Judged o s es names a (headed o a (Some h) bs) (Err (refusal.Error TooDeep))
  unfolding item_of is_content box
  container-deep l = flat_deep bs cs _ (form-container h code) refl (bare 8 h.payload) refl
      (and_no_right a.place.keyed box_key) (and_yes box_is (leb_yes l))

  module _ (d : length a.place.opened < max_depth) where
    container_goes : (p : Place) → moved a.place box ≡ p → p.keyed ≡ false → Goes o s es next names 0 p a (headed o a (Some h) bs)
    unfolding item_of is_content box
    container_goes p e k = flat_goes bs cs _ (form-container h code) refl (bare 8 h.payload) refl
        (and_no_right a.place.keyed box_key) (and_no_right (is_container box) (leb_no d)) 0 p e k

    pub container_empty : h.payload ≡ 0 → Judged o s es names a (headed o a (Some h) bs) (Ok (out.Value next))
    unfolding box
    container_empty z = container_goes _
        (moved_value a.place box box_key
        (and_no_right (is_container box) (ltb_no {a = 0} {b = h.payload} (omega arith)))) (ended-keyed _ _)

    pub container-held : (n : FieldCount) → n.0 ≡ h.payload → h.payload ≢ 0
        → Judged o s es names a (headed o a (Some h) bs) (Ok (out.Container n next))
    unfolding box
    container-held n e z =
        container_goes _ (moved-held a.place box box_key
        (and_yes box_is (ltb_yes {a = 0} {b = h.payload} (omega (arith, z))))
        ∙ ap (λ (k : ℕ). spot (k ∷ a.place.opened) false a.place.fields) (sym e)) refl

-- ---- references

module _ {s es : List ℕ} {at names keyed next : ℕ} {h : Header} {o : Options} {a : State} (bs : List ℕ)
    (cs : Case s es at names keyed next h o a) (code : h.code ≡ 7)
    (size : length es ≡ 256) (few : names ≤ 256) where
  pub reference_missing : names ≤ h.payload → Judged o s es names a (headed o a (Some h) bs) (Err (refusal.Error UndefinedReference))
  unfolding item_of
  reference_missing l = missing o a h bs reference (form-reference h (omega arith)) cs.short
      (rw cs.stands.entries (entry-none s es names size few h.payload l))

  module _ (l : h.payload < names) (e : ℕ) (ee : get_or es h.payload 0 ≡ e) where
    found : Found
    found = found_in s e

    kind_is : found.item.kind ≡ kind_in e
    unfolding found found_in name_in
    kind_is = refl

    key-is : is_key found.item ≡ eqb (kind_in e) Kind.key
    unfolding is_key
    key-is = rw kind_is

    meant : item_of reference h.payload (a.at + h.size) (drop h.size bs) a.entries ≡ Some found
    unfolding item_of found
    meant = rw cs.stands.entries (entry-is s es names size few h.payload l ∙ rw ee)

    no_box : is_container found.item ≡ false
    no_box = not-container found.item (λ q. omega (arith, kind_is))

    pub reference-value : eqb (kind_in e) Kind.key ≡ false → Judged o s es names a (headed o a (Some h) bs) (Ok (out.Value next))
    unfolding is_content
    reference-value z =
        let key : is_key found.item ≡ false = key-is ∙ z in
        flat_goes bs cs _ (form-reference h (omega arith)) refl found meant (and_no_right a.place.keyed key)
        (and_no_left _ no_box) 0 _ (moved_value a.place found.item key (and_no_left _ no_box)) (ended-keyed _ _)

    module _ (z : eqb (kind_in e) Kind.key ≡ true) where
      a_key : is_key found.item ≡ true
      a_key = key-is ∙ z

      pub reference-again : keyed ≡ 1 → Judged o s es names a (headed o a (Some h) bs) (Err (refusal.Error UnexpectedKey))
      unfolding is_content
      reference-again k = flat_again bs cs _ (form-reference h (omega arith)) refl found meant (and_yes (cs.stands.key ∙ eqb_yes k) a_key)

      pub reference-key : keyed ≢ 1 → Judged o s es names a (headed o a (Some h) bs) (Ok (out.Key next))
      unfolding is_content
      reference-key k =
          flat_goes bs cs _ (form-reference h (omega arith)) refl found meant
          (and_no_left _ (cs.stands.key ∙ eqb_no k)) (and_no_left _ no_box) 1 _
          (moved-key a.place found.item a_key) refl
