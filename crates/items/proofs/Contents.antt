-- Items whose content follows (bytes, strings, names): what each answer means. Assumes nothing.
use Rattle.items.specs.declared.item.Refusal.{Refusal}
use Rattle.items.specs.declared.item.Refusal.TheVariants as refusal
use Rattle.std.specs.Prelude.{Result, Ok, Err}
use Rattle.std.specs.Prelude.{Some, is_some}
use mathlib.Core.Path.{◌≡◌, refl, ap, sym, subst, ◌∙◌}
use mathlib.Core.Logic.{◌≢◌}
use mathlib.Core.Bool.{Bool, true, false, not, ◌&&◌, and-true, and-false}
use mathlib.Core.List.{List, [], ◌∷◌, ◌++◌}
use Prim.Native.Nat.{ℕ, ◌+◌, ◌-◌, ◌≤◌, ◌<◌}
use native.Mathlib.Omega.{arith}
use lib.Dec.{leb, ltb, eqb}
use lib.ListN.{length, take, drop, length-append, length-drop}
use lib.Seq.{drop-drop}
use Rattle.format.specs.declared.header.Header.{Header}
use Rattle.format.specs.declared.error.Error.TheVariants.{NotCanonical, TooManyEntries, Truncated, UnexpectedKey}
use Rattle.format.specs.Choice.{pick}
use Rattle.format.specs.Limits.{max_entries}
use Rattle.format.specs.Answer.{fail}
use Rattle.format.specs.Utf8.{utf8}
use Rattle.format.specs.Item.{is_key, is_name, is_text}
use Rattle.format.specs.Names.{index}
use Rattle.format.specs.Place.{Place, key_after_key, is_too_deep, moved}
use Rattle.format.specs.Reading.{Options, State, Found, content, form_of, is_content, item_of, items_of, after, headed}
use Rattle.format.proofs.Tests.{cases, clash, equal, leb_yes, leb_no, ltb_yes, ltb_no, eqb_yes, eqb_no, and_no_left, and_no_right, pick_yes, pick_no}
use Rattle.format.proofs.Forms.{form-bytes, form-text}
use Rattle.symbols.specs.Entries.{entries_of, part_of}
use Rattle.symbols.proofs.Entries.{length-entries}
use Rattle.items.specs.declared.item.Out.{Out}
use Rattle.items.specs.declared.item.Out.TheVariants as out
use Rattle.items.specs.Judging.{Fair, Stands, Moves, Goes, Judged, Case, Body, Name, is_known, stop_in, fresh_of, Entered, known, full, entered, rowed}
use Rattle.items.proofs.Ladder.{later, to_later, not_key, is-key, not-container, not-name, is_name_lem}
use Rattle.items.proofs.Flat.{ended-keyed, moved-key, moved_value}

-- ---- forms

pub body_bytes : (h : Header) → h.code ≡ 0 → 5 ≤ h.sz → Body h
body_bytes h e l = record { kind = 5; form = form-bytes h e l; low = omega arith; plain = λ z. omega arith; text = rw e }

pub body_string : (h : Header) → h.code ≡ 4 → Body h
body_string h e = record {
  kind = 9;
  form = form-text h (omega arith) (omega arith) ∙ ap (λ (c : ℕ). content (c + 5)) e;
  low = omega arith;
  plain = λ z. omega arith;
  text = rw e;
}

pub name_of : (h : Header) → 5 ≤ h.code → h.code ≤ 6 → Name h
name_of h l u = record { form = form-text h (omega arith) u; high = l; last = u }

-- The end of a part less its start.
pub part_size : (next p : ℕ) → next + p - next ≡ p
part_size next p = omega arith

-- ---- the rules for content of kind k from next on

module _ {s es : List ℕ} {at names keyed next : ℕ} {h : Header} {o : Options} {a : State}
    (cs : Case s es at names keyed next h o a) (p : ℕ) (ep : p ≡ h.payload)
    (k : ℕ) (ef : form_of h ≡ content k) (plain : k ≢ 8) where
  abbrev x : Found
  x = part_of s k next p

  rest-is : drop h.size (drop at s) ≡ drop next s
  rest-is = drop-drop h.size at s ∙ ap (λ (n : ℕ). drop n s) (sym cs.size)

  at_later : headed o a (Some h) (drop at s) ≡ later o a h (content k) (drop next s) x.item (after a h (content k) x)
  unfolding item_of
  at_later =
      let e : a.at + h.size ≡ next = omega (arith, cs.stands.offset, cs.size) in
      to_later o a h (drop at s) (content k) ef cs.short x
      (rw (rest-is, e) (ap (λ (n : ℕ). Some (part_of s k next n)) (sym ep))) ∙ rw rest-is

  pub content-again : eqb keyed 1 && is_key x.item ≡ true → headed o a (Some h) (drop at s) ≡ fail UnexpectedKey a.at
  content-again e = at_later ∙ pick_yes _ _ (rw cs.stands.key e)

  module _ (key : eqb keyed 1 && is_key x.item ≡ false) where
    not-again : key_after_key a.place x.item ≡ false
    not-again = rw cs.stands.key key

    not_box : is_too_deep a.place x.item ≡ false
    not_box = and_no_left _ (not-container x.item plain)

    pub content-cut : length s - next < p → headed o a (Some h) (drop at s) ≡ fail Truncated a.at
    unfolding is_content
    content-cut l =
        let g : length (drop next s) < h.payload = omega (arith, length-drop next s) in
        at_later ∙ pick_no _ _ not-again ∙ pick_no _ _ not_box ∙ pick_yes _ _ (ltb_yes g)

    module _ (whole : p ≤ length s - next) where
      uncut : ltb (length (drop next s)) h.payload ≡ false
      uncut = let g : h.payload ≤ length (drop next s) = omega (arith, length-drop next s) in ltb_no g

      pub content-text : is_text x.item && not (utf8 x.item.content) ≡ true
          → Judged o s es names a (headed o a (Some h) (drop at s)) (Err (refusal.Text next (next + p)))
      unfolding is_content stop_in
      content-text e =
          let n : a.at + h.size ≡ next = omega (arith, cs.stands.offset, cs.size) in
          at_later ∙ pick_no _ _ not-again ∙ pick_no _ _ not_box ∙ pick_no _ _ uncut ∙ pick_yes _ _ e
          ∙ rw (n, part_size next p)

      module _ (text : is_text x.item && not (utf8 x.item.content) ≡ false) where
        at_rest : headed o a (Some h) (drop at s)
            ≡ pick (o.strict && (is_content (content k) && is_name x.item)
            && is_some (index x.item (items_of a.entries))) (fail NotCanonical a.at)
            (pick (is_content (content k) && is_name x.item && leb max_entries (length a.entries)) (fail TooManyEntries a.at)
            (rowed o a (after a h (content k) x)))
        unfolding is_content
        at_rest = at_later ∙ pick_no _ _ not-again ∙ pick_no _ _ not_box ∙ pick_no _ _ uncut ∙ pick_no _ _ text

        -- the state after it
        after-stands : (es' : List ℕ) (n b : ℕ) (q : Place) → moved a.place x.item ≡ q → q.keyed ≡ eqb b 1
            → (after a h (content k) x).entries ≡ entries_of s es' n
            → Stands s es' (next + p) n b (after a h (content k) x)
        unfolding after is_content
        after-stands es' n b q mv kb ee =
            record {
              offset = rw (pick_yes {b = true} h.payload 0 refl) (omega (arith, cs.stands.offset, cs.size));
              key = ap (λ (v : Place). v.keyed) mv ∙ kb;
              entries = ee;
            }

        -- bytes and strings
        pub content-value : k < 10 → Judged o s es names a (headed o a (Some h) (drop at s)) (Ok (out.Value (next + p)))
        unfolding after is_content pick
        content-value low =
            let no_name : is_name x.item ≡ false = not-name x.item low in
            let mv = moved_value a.place x.item (not_key x.item (λ e. omega arith))
            (and_no_left _ (not-container x.item plain)) in
            record {
              next = after a h (content k) x;
              is = at_rest ∙ rw (no_name, and-false);
              stands = after-stands es names 0 _ mv (ended-keyed _ _) (rw no_name cs.stands.entries);
              place = mv;
              row = length-append a.found (x ∷ []);
            }

        -- names
        module _ (high : 10 ≤ k) where
          a_name : is_name x.item ≡ true
          a_name = is_name_lem x.item high

          pub name-known : o.strict && is_known s es names x ≡ true → headed o a (Some h) (drop at s) ≡ fail NotCanonical a.at
          unfolding is_content
          name-known e = at_rest ∙ pick_yes _ _ (rw (a_name, and-true, cs.stands.entries) e)

          module _ (fresh : o.strict && is_known s es names x ≡ false) (size : length es ≡ 256) (few : names ≤ 256) where
            at_entry : headed o a (Some h) (drop at s) ≡ pick (is_content (content k) && is_name x.item
                && leb max_entries (length a.entries)) (fail TooManyEntries a.at) (rowed o a (after a h (content k) x))
            unfolding is_content
            at_entry = at_rest ∙ pick_no _ _ (rw (a_name, and-true, cs.stands.entries) fresh)

            entries-length : length a.entries ≡ names
            entries-length = rw cs.stands.entries (length-entries s es names size few)

            pub name-full : max_entries ≤ names → headed o a (Some h) (drop at s) ≡ fail TooManyEntries a.at
            unfolding is_content
            name-full l = at_entry ∙ pick_yes _ _ (rw (a_name, entries-length) (leb_yes l))

            pub name_goes : names < max_entries → (es' : List ℕ) → entries_of s es' (names + 1) ≡ entries_of s es names ++ (x ∷ [])
                → (b : ℕ) (q : Place) → moved a.place x.item ≡ q → q.keyed ≡ eqb b 1
                → Goes o s es' (next + p) (names + 1) b q a (headed o a (Some h) (drop at s))
            unfolding after is_content
            name_goes l es' em b q mv kb =
                record {
                  next = after a h (content k) x;
                  is = at_entry ∙ pick_no _ _ (rw (entries-length, leb_no l, and-false));
                  stands = after-stands es' (names + 1) b q mv kb (pick_yes _ _ a_name
                      ∙ ap (λ (l : List Found). l ++ (x ∷ [])) cs.stands.entries ∙ sym em);
                  place = mv;
                  row = length-append a.found (x ∷ []);
                }

            -- A key opens its field, a symbol ends it.
            pub name-fresh : names < max_entries → (es' : List ℕ) → entries_of s es' (names + 1) ≡ entries_of s es names ++ (x ∷ [])
                → Judged o s es' names a (headed o a (Some h) (drop at s)) (Ok (fresh_of k (next + p)))
            unfolding fresh_of pick
            name-fresh l es' em =
                equal k 11
                (λ e. rw (eqb_yes e) (name_goes l es' em 1 _ (moved-key a.place x.item (is-key x.item e)) refl))
                (λ e. rw (eqb_no e) (name_goes l es' em 0 _ (moved_value a.place x.item (not_key x.item e)
                (and_no_left _ (not-container x.item plain))) (ended-keyed _ _)))

-- ---- what the code compared

module _ (s : List ℕ) (next p : ℕ) where
  pub body_key : (keyed : ℕ) {h : Header} (b : Body h) → eqb keyed 1 && is_key (part_of s b.kind next p).item ≡ false
  body_key keyed b = and_no_right (eqb keyed 1) (not_key (part_of s b.kind next p).item (λ e. omega (arith, b.low)))

  pub body_text : {h : Header} (b : Body h) {r : Bool} → r ≡ (eqb h.code 4 && not (utf8 (take (next + p - next) (drop next s))))
      → is_text (part_of s b.kind next p).item && not (utf8 (part_of s b.kind next p).item.content) ≡ r
  unfolding is_text
  body_text b e = rw b.text (sym (rw (part_size next p) at e))

  pub name-text : {h : Header} (b : Name h) {r : Bool} → r ≡ utf8 (take (next + p - next) (drop next s))
      → is_text (part_of s (h.code + 5) next p).item && not (utf8 (part_of s (h.code + 5) next p).item.content) ≡ not r
  unfolding is_text
  name-text {h} b e =
      let n : 9 ≤ h.code + 5 = omega (arith, b.high) in
      rw (leb_yes {a = 9} {b = h.code + 5} n) (ap not (sym (rw (part_size next p) at e)))

-- ---- a name that the table was asked about

pub fair-plain : {strict : Bool} {s es links : List ℕ} {names : ℕ} → Fair strict s es links names → Fair false s es links names
fair-plain f = record { few = f.few; size = f.size; chained = λ z. clash z refl }

pub name_moves : {strict b : Bool} {s es es' links' : List ℕ} {names kind next e : ℕ} {r : Result Out Refusal} → strict ≡ b
    → (at depth : ℕ) → at < e → e ≤ length s → Entered b s es es' links' names kind next e r
    → Moves strict s es' links' at names depth r
unfolding fresh_of pick
name_moves {strict} {b} {s} {es} {es'} {links'} {names} {kind} {next} {e} {r} z at depth l w t =
    subst (λ (v : Bool). Moves v s es' links' at names depth r) (sym z)
    (subst (λ (v : Result Out Refusal). Moves b s es' links' at names depth v) (sym (is t).1) (is t).2)
  where
    is : Entered b s es es' links' names kind next e r → (q : Result Out Refusal) × (r ≡ q) × Moves b s es' links' at names depth q
    is (known z q) = (_, q, tt)
    is (full z m q) = (_, q, tt)
    is (entered z m q em f) = (
      _,
      q,
      cases (eqb kind 11) (λ c. rw c (record {
        on = l;
        within = w;
        fair = f;
      })) (λ c. rw c (record { on = l; within = w; fair = f })),
    )

pub name-plain : {h : Header} → Name h → h.code + 5 ≢ 8
name-plain {h} b e = omega (arith, b.high)

pub name_judged : {strict : Bool} {s es es' links' : List ℕ} {at names keyed next : ℕ} {h : Header} {o : Options}
    {a : State} {r : Result Out Refusal} (b : Name h) → o.strict ≡ strict
    → (cs : Case s es at names keyed next h o a) (p : ℕ) → p ≡ h.payload → length es ≡ 256 → names ≤ 256 → eqb keyed 1
    && eqb (h.code + 5) 11 ≡ false → p ≤ length s - next
    → is_text (part_of s (h.code + 5) next p).item && not (utf8 (part_of s (h.code + 5) next p).item.content) ≡ false
    → Entered strict s es es' links' names (h.code + 5) next (next + p) r → Judged o s es' names a (headed o a (Some h) (drop at s)) r
unfolding is_key
name_judged {strict} {s} {es} {es'} {links'} {at} {names} {keyed} {next} {h} {o} {a} {r} b so cs p ep size few key whole text t = go t
  where
    strictly : (v : Bool) → strict && is_known s es names (part_of s (h.code + 5) next (next + p - next)) ≡ v → o.strict
        && is_known s es names (part_of s (h.code + 5) next p) ≡ v
    strictly v e = rw so (rw (part_size next p) at e)

    high : 10 ≤ h.code + 5
    high = omega (arith, b.high)

    go : Entered strict s es es' links' names (h.code + 5) next (next + p) r → Judged o s es' names a (headed o a (Some h) (drop at s)) r
    go (known z q) = subst (λ (v : Result Out Refusal). Judged o s es' names a (headed o a (Some h) (drop at s)) v) (sym q)
        (name-known cs p ep (h.code + 5) b.form (name-plain b) key whole text high (strictly true z))
    go (full z m q) = subst (λ (v : Result Out Refusal). Judged o s es' names a (headed o a (Some h) (drop at s)) v) (sym q)
        (name-full cs p ep (h.code + 5) b.form (name-plain b) key whole text high (strictly false z) size few m)
    go (entered z m q em f) =
        subst (λ (v : Result Out Refusal). Judged o s es' names a (headed o a (Some h) (drop at s)) v) (sym q)
        (name-fresh cs p ep (h.code + 5) b.form (name-plain b) key whole text high (strictly false z) size few m es'
        (rw (part_size next p) at em))
