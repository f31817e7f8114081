-- The rules for one item as a ladder of choices, and which steps an item can stop at. Assumes nothing.
use Rattle.std.specs.Prelude.{Option, None, Some, Err, Ok, is_some}
use mathlib.Core.Path.{◌≡◌, refl, ap, sym, ◌∙◌}
use mathlib.Core.Logic.{◌≢◌}
use mathlib.Core.Bool.{Bool, true, false, not, ◌&&◌, ◌||◌, and-false}
use mathlib.Core.List.{List, [], ◌∷◌}
use Prim.Native.Nat.{ℕ, ◌+◌, ◌≤◌, ◌<◌}
use lib.Dec.{leb, ltb}
use lib.ListN.{length, drop}
use Rattle.format.specs.declared.header.Header.{Header}
use Rattle.format.specs.declared.error.Error.TheVariants.{InvalidUtf8, NotCanonical, TooDeep, TooManyEntries, Truncated, UndefinedReference, UnexpectedKey}
use Rattle.format.specs.Choice.{pick}
use Rattle.format.specs.Limits.{max_entries}
use Rattle.format.specs.declared.failure.Failure.{Failure}
use Rattle.format.specs.Answer.{Rule, rule, first, Answer, fail, unless}
use Rattle.format.specs.Header.{is_long, is_negative_alias, header_of}
use Rattle.format.specs.Utf8.{bad_at, utf8}
use Rattle.format.specs.Item.{Item, is_key, is_container, is_name, is_text}
use Rattle.format.specs.Names.{index}
use Rattle.format.specs.Place.{key_after_key, is_too_deep}
use Rattle.format.specs.Reading.{Options, State, Found, Form, form_of, is_content, item_of, is_missing, or_null, items_of, item_rules, after, headed, item}
use Rattle.format.proofs.Tests.{leb_yes, leb_no, eqb_yes, eqb_no, pick_yes, pick_no}
use Rattle.items.specs.Judging.{rowed}

unfoldable pub ladder : List Rule → State → Answer State
ladder [] b = Ok b
ladder (r ∷ rs) b = let rest = ladder rs b in pick r.applies (Err r.gives) rest

pub ladder_is : (rs : List Rule) (b : State) → unless (first rs) b ≡ ladder rs b
unfolding ladder first unless
ladder_is [] b = refl
ladder_is (r ∷ rs) b = both r.applies (ladder_is rs b)
  where
    both : (t : Bool) → unless (first rs) b ≡ ladder rs b
        → unless (pick t (Some r.gives) (first rs)) b ≡ pick t (Err r.gives) (ladder rs b)
    both true e = ap (λ (q : Option Failure). unless q b) (pick_yes _ _ refl) ∙ sym (pick_yes _ _ refl)
    both false e = ap (λ (q : Option Failure). unless q b) (pick_no _ _ refl) ∙ e ∙ sym (pick_no _ _ refl)

-- ---- the rules after the first two, for an item x

abbrev pub later : Options → State → Header → Form → List ℕ → Item → State → Answer State
later o s h f bs x b =
    pick (key_after_key s.place x) (fail UnexpectedKey s.at)
    (pick (is_too_deep s.place x) (fail TooDeep s.at)
    (pick (is_content f && ltb (length bs) h.payload) (fail Truncated s.at)
    (pick (is_content f && is_text x && not (utf8 x.content)) (fail InvalidUtf8 (s.at + h.size + bad_at x.content))
    (pick (o.strict && (is_content f && is_name x) && is_some (index x (items_of s.entries))) (fail NotCanonical s.at)
    (pick (is_content f && is_name x && leb max_entries (length s.entries)) (fail TooManyEntries s.at)
    (rowed o s b))))))

module _ (o : Options) (a : State) (h : Header) (bs : List ℕ) (f : Form) (ef : form_of h ≡ f) (short : o.strict
    && (is_long h || is_negative_alias h) ≡ false) where
  pub to_later : (x : Found) → item_of f h.payload (a.at + h.size) (drop h.size bs) a.entries ≡ Some x
      → headed o a (Some h) bs ≡ later o a h f (drop h.size bs) x.item (after a h f x)
  unfolding headed item_rules is_missing or_null ladder rule fail rowed
  to_later x e = rw (ef, e) (ladder_is _ _ ∙ pick_no _ _ short ∙ pick_no _ _ refl)

  pub missing : item_of f h.payload (a.at + h.size) (drop h.size bs) a.entries ≡ None
      → headed o a (Some h) bs ≡ fail UndefinedReference a.at
  unfolding headed item_rules is_missing or_null ladder rule fail
  missing e = rw (ef, e) (ladder_is _ _ ∙ pick_no _ _ short ∙ pick_yes _ _ refl)

pub waste : (o : Options) (a : State) (h : Header) (bs : List ℕ) {strict : Bool} → o.strict ≡ strict → strict
    && (is_long h || is_negative_alias h) ≡ true → headed o a (Some h) bs ≡ fail NotCanonical a.at
unfolding headed item_rules ladder rule fail
waste o a h bs so e = ladder_is _ _ ∙ pick_yes _ _ (ap (λ (b : Bool). b && (is_long h || is_negative_alias h)) so ∙ e)

-- ---- an item by its header

pub cut : (o : Options) (a : State) (bs : List ℕ) → None ≡ header_of bs → item o a bs ≡ fail Truncated a.at
unfolding item headed
cut o a bs e = rw (← e)

pub whole : (o : Options) (a : State) (bs : List ℕ) (h : Header) → Some h ≡ header_of bs → item o a bs ≡ headed o a (Some h) bs
unfolding item
whole o a bs h e = rw (← e)

-- ---- kinds

module _ (x : Item) where
  pub not_key : x.kind ≢ 11 → is_key x ≡ false
  unfolding is_key
  not_key h = eqb_no h

  pub is-key : x.kind ≡ 11 → is_key x ≡ true
  unfolding is_key
  is-key h = eqb_yes h

  pub not-container : x.kind ≢ 8 → is_container x ≡ false
  unfolding is_container
  not-container h = eqb_no h

  pub is-container : x.kind ≡ 8 → is_container x ≡ true
  unfolding is_container
  is-container h = eqb_yes h

  pub not-name : x.kind < 10 → is_name x ≡ false
  unfolding is_name
  not-name h = leb_no h

  pub is_name_lem : 10 ≤ x.kind → is_name x ≡ true
  unfolding is_name
  is_name_lem h = leb_yes h

-- An item that makes no entry: nothing but the count of rows is left to judge.
pub by_row : (o : Options) (a : State) (h : Header) (f : Form) (bs : List ℕ) (x : Item) (b : State)
    → key_after_key a.place x ≡ false → is_too_deep a.place x ≡ false → is_content f ≡ false
    → later o a h f bs x b ≡ rowed o a b
unfolding pick
by_row o a h f bs x b key deep flat = rw (key, deep, flat, and-false)
