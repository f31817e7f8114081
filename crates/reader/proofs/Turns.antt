-- A turn of the loop over fields: what one item, or a container read whole, does to the run. Assumes nothing.
use Rattle.std.specs.Prelude.{Result, Ok, Err}
use mathlib.Core.Path.{◌≡◌, refl, ap, sym, subst, ◌∙◌}
use mathlib.Core.Logic.{◌≢◌}
use mathlib.Core.Bool.{Bool, true, false}
use mathlib.Core.List.{List, ◌∷◌}
use Prim.Native.Nat.{ℕ, zero, suc, ◌+◌, ◌-◌, ◌≤◌, ◌<◌, min}
use native.Mathlib.Omega.{arith}
use lib.Dec.{eqb}
use lib.ListN.{length, drop}
use Rattle.format.specs.declared.error.Error.{Error}
use Rattle.format.specs.declared.error.Error.TheVariants.{InvalidUtf8, TooManyRows, Truncated}
use Rattle.format.specs.declared.header.FieldCount.{FieldCount}
use Rattle.format.specs.Limits.{max_rows, max_depth}
use Rattle.format.specs.declared.failure.Failure.{Failure}
use Rattle.format.specs.Answer.{Answer, fail, failure}
use Rattle.format.specs.Place.{Place, ended, due}
use Rattle.format.specs.Reading.{Options, State, item, ending, run}
use Rattle.format.proofs.Steps.{run-to, run-failed, run_end}
use Rattle.format.proofs.Tests.{order, ltb_yes, ltb_no, pick_yes, pick_no}
use Rattle.items.specs.declared.item.Out.{Out}
use Rattle.items.specs.declared.item.Out.TheVariants as out
use Rattle.items.specs.declared.item.Refusal.{Refusal}
use Rattle.items.specs.declared.item.Refusal.TheVariants as refusal
use Rattle.reader.specs.declared.fields.Cursor.{Cursor}
use Rattle.reader.specs.declared.fields.Step.{Step}
use Rattle.reader.specs.declared.fields.Step.TheVariants as step
use Rattle.items.specs.Judging.{Fair, Stands, Moved, Judged, spot, stop_in}
use Rattle.reader.specs.Lanes.{Lane, Leads, Resumes}
use Rattle.reader.proofs.LastRule.{rowless_of, Taken, Takes, takes, takes_none}

abbrev pub cursor : ℕ → ℕ → ℕ → ℕ → Cursor
cursor at names rows keyed = record { at = at; names = names; rows = rows; keyed = keyed }

-- What is promised of one item, at a cursor.
abbrev pub Promised : Options → List ℕ → List ℕ → List ℕ → Cursor → ℕ → Result Out Refusal → Type 0
Promised o s es es' t d r = (b : State) → Stands s es t.at t.names t.keyed b
    → length b.place.opened + d ≡ max_depth → Judged o s es' t.names b (item o b (drop t.at s)) r

-- What is promised of n fields.
abbrev pub Resumed : Options → List ℕ → List ℕ → List ℕ → ℕ → ℕ → ℕ → ℕ → ℕ → Answer Step → Type 0
Resumed o s es es' at names rows d n q = (Q : ℕ → Bool → Place) (b : State) → Lane Q d n → Stands s es at names 0 b
    → length b.found + rows ≡ min max_rows o.capacity → b.place ≡ Q n false
    → Resumes o s es' Q b q

pub at_place : {o : Options} {s es : List ℕ} {t : Cursor} {p q : Place} {a : State} → p ≡ q → Leads o s es t p a → Leads o s es t q a
at_place e l = record { next = l.next; is = l.is; stands = l.stands; row = l.row; place = l.place ∙ e }

-- ---- the place in a container of which some fields are left

unfoldable pub midway : ℕ → Bool → List ℕ → ℕ → Place
midway zero b K f = ended K f
midway (suc n) b K f = spot (suc n ∷ K) b f

midway_some : (n : ℕ) (b : Bool) (K : List ℕ) (f : ℕ) → 0 < n → midway n b K f ≡ spot (n ∷ K) b f
unfolding midway
midway_some zero b K f l = absurd (omega arith)
midway_some (suc n) b K f l = refl

midway_none : (n : ℕ) (b : Bool) (K : List ℕ) (f : ℕ) → n ≡ 0 → midway n b K f ≡ ended K f
unfolding midway
midway_none n b K f e = rw e

midway_less : (n : ℕ) (K : List ℕ) (f : ℕ) → 0 < n → ended (n ∷ K) f ≡ midway (n - 1) false K f
unfolding ended
midway_less n K f l =
    order 2 n
    (λ g. pick_no _ _ (ltb_no g) ∙ sym (midway_some (n - 1) false K f (omega arith)))
    (λ g. pick_yes _ _ (ltb_yes g) ∙ sym (midway_none (n - 1) false K f (omega arith)))

due_open : (n : ℕ) (K : List ℕ) (b : Bool) (f : ℕ) → due (spot (n ∷ K) b f) ≡ true
unfolding due
due_open n K true f = refl
due_open n K false f = ltb_yes {a = 0} {b = suc (length K)} (omega arith)

abbrev inside : List ℕ → ℕ → ℕ → Bool → Place
inside K f left b = midway left b K f

inside_lane : (K : List ℕ) (f d n : ℕ) → suc (length K) + d ≡ max_depth → Lane (inside K f) d n
inside_lane K f d n e =
    record {
      deep = λ left b l w. ap (λ (p : Place). length p.opened + d) (midway_some left b K f l) ∙ e;
      value = λ left b l w. ap (λ (p : Place). ended p.opened p.fields) (midway_some left b K f l) ∙ midway_less left K f l;
      key = λ left b l w. ap (λ (p : Place). spot p.opened true p.fields) (midway_some left b K f l)
          ∙ sym (midway_some left true K f l);
    }

-- ---- from a cursor at a place

module _ {o : Options} {s es : List ℕ} {t : Cursor} {p : Place} {a : State} (lead : Leads o s es t p a) (here : t.at < length s)
    (es' : List ℕ) (d : ℕ) (deep : length p.opened + d ≡ max_depth) (r : Result Out Refusal) (one : Promised o s es es' t d r) where
  abbrev from : State
  from = lead.next

  abbrev this : Answer State
  this = item o from (drop from.at s)

  judged : Judged o s es' t.names from this r
  judged =
      let e : length from.place.opened + d ≡ max_depth = subst (λ (x : Place). length x.opened + d ≡ max_depth)
      (sym lead.place) deep in
      subst (λ (x : ℕ). Judged o s es' t.names from (item o from (drop x s)) r) (sym lead.stands.offset) (one from lead.stands e)

  stops_at : (k : Error) (p : ℕ) → this ≡ fail k p → run o a 0 (drop a.at s) ≡ fail k p
  unfolding fail
  stops_at k p j = lead.is ∙ run-failed o from s (omega (arith, lead.stands.offset)) j

  stops : {f : Failure} (k : Error) → f ≡ failure k t.at → this ≡ fail k from.at
      → run o a 0 (drop a.at s) ≡ Err f
  unfolding fail
  stops k g j = stops_at k from.at j ∙ ap (λ (p : ℕ). Err (failure k p)) lead.stands.offset ∙ ap Err (sym g)

  pub turn_bad : {f : Failure} (k : Error) → f ≡ failure k t.at → r ≡ Err (refusal.Error k) → run o a 0 (drop a.at s) ≡ Err f
  turn_bad k g e = stops k g (subst (Judged o s es' t.names from this) e judged)

  -- a text that is not UTF-8
  pub turn_bad_text : (i u : ℕ) → r ≡ Err (refusal.Text i u)
      → run o a 0 (drop a.at s) ≡ Err (failure InvalidUtf8 (stop_in s i u))
  unfolding fail
  turn_bad_text i u e = stops_at InvalidUtf8 (stop_in s i u) (subst (Judged o s es' t.names from this) e judged)

  -- an item that is no error, and no row for it
  pub turn_full : {f : Failure} → f ≡ failure TooManyRows t.at → (x : Result Out Refusal) → r ≡ x
      → rowless_of x ≡ Err (refusal.Error TooManyRows) → t.rows ≡ 0 → run o a 0 (drop a.at s) ≡ Err f
  turn_full h x g e z = stops TooManyRows h (subst (Takes o s es' t.names t.rows from this) (ap rowless_of g ∙ e)
      (takes_none o from t.rows lead.row s es' this t.names r z judged))

  leads-on : {at names keyed rows : ℕ} {q : Place} → Taken o s es' at names keyed rows q this
      → Leads o s es' (cursor at names rows keyed) q a
  leads-on g = record { next = g.next; is = lead.is ∙ run-to o from s g.is; stands = g.stands; row = g.row; place = g.place }

  -- an item that goes on to a place, whatever the variant
  pub turn_on : (at names keyed rows : ℕ) (Q : Place → Place) → Taken o s es' at names keyed rows (Q from.place) this
      → Leads o s es' (cursor at names rows keyed) (Q p) a
  turn_on at names keyed rows Q g = at_place (ap Q lead.place) (leads-on g)

  pub turn_item : t.rows ≢ 0 → (x : Result Out Refusal) → r ≡ x → Takes o s es' t.names t.rows from this x
  turn_item n x e = takes o from t.rows lead.row s es' this t.names x n (subst (Judged o s es' t.names from this) e judged)

  turn_held : t.rows ≢ 0 → (n : FieldCount) (u : ℕ) → r ≡ Ok (out.Container n u)
      → Leads o s es' (cursor u t.names (t.rows - 1) 0) (spot (n.0 ∷ p.opened) false p.fields) a
  turn_held z n u e = turn_on u t.names 0 (t.rows - 1) (λ (x : Place). spot (n.0 ∷ x.opened) false x.fields)
      (turn_item z (Ok (out.Container n u)) e)

  module _ (z : t.rows ≢ 0) (n : FieldCount) (u : ℕ) (e : r ≡ Ok (out.Container n u)) (pos : 0 < d) (some : 0 < n.0)
      (es'' : List ℕ) (q : Answer Step) (all : Resumed o s es' es'' u t.names (t.rows - 1) (d - 1) n.0 q) where
    abbrev held : Leads o s es' (cursor u t.names (t.rows - 1) 0) (spot (n.0 ∷ p.opened) false p.fields) a
    held = turn_held z n u e

    resumed : Resumes o s es'' (inside p.opened p.fields) held.next q
    resumed =
        all (inside p.opened p.fields) held.next
        (inside_lane p.opened p.fields (d - 1) n.0 (omega arith)) held.stands held.row
        (held.place ∙ sym (midway_some n.0 false p.opened p.fields some))

    pub held-bad : (f : Failure) → q ≡ Err f → run o a 0 (drop a.at s) ≡ Err f
    held-bad f g = held.is ∙ subst (λ (v : Answer Step). Resumes o s es'' (inside p.opened p.fields) held.next v) g resumed

    -- the bytes end inside a container
    pub held-end : {f : Failure} (left : ℕ) (v : Cursor) → f ≡ failure Truncated v.at → q ≡ Ok (step.End left v)
        → 0 < left → length s ≤ v.at → run o a 0 (drop a.at s) ≡ Err f
    unfolding ending fail
    held-end left v h g l w =
        let r : Leads o s es'' v (midway left (eqb v.keyed 1) p.opened p.fields) held.next = subst
        (λ (v : Answer Step). Resumes o s es'' (inside p.opened p.fields) held.next v) g resumed in
        let x : due r.next.place ≡ true = ap due (r.place
        ∙ midway_some left (eqb v.keyed 1) p.opened p.fields l)
        ∙ due_open left p.opened (eqb v.keyed 1) p.fields in
        held.is ∙ r.is ∙ run_end o r.next s (omega (arith, r.stands.offset)) ∙ pick_yes _ _ x
        ∙ ap (λ (p : ℕ). Err (failure Truncated p)) r.stands.offset ∙ ap Err (sym h)

    pub held-good : (v : Cursor) → q ≡ Ok (step.Good v) → Leads o s es'' v (ended p.opened p.fields) a
    unfolding midway
    held-good v g =
        let l : Leads o s es'' v (ended p.opened p.fields) held.next = subst
        (λ (v : Answer Step). Resumes o s es'' (inside p.opened p.fields) held.next v) g resumed in
        record { next = l.next; is = held.is ∙ l.is; stands = l.stands; row = l.row; place = l.place }

-- ---- in a lane, with some fields left

module _ {o : Options} {s es : List ℕ} {t : Cursor} {a : State} (Q : ℕ → Bool → Place) (d n left : ℕ)
    (lane : Lane Q d n) (pos : 0 < left) (most : left ≤ n)
    (lead : Leads o s es t (Q left (eqb t.keyed 1)) a) (here : t.at < length s) (es' : List ℕ) (r : Result Out Refusal)
    (one : Promised o s es es' t d r) where
  abbrev deep : length (Q left (eqb t.keyed 1)).opened + d ≡ max_depth
  deep = lane.deep left (eqb t.keyed 1) pos most

  abbrev less : ended (Q left (eqb t.keyed 1)).opened (Q left (eqb t.keyed 1)).fields ≡ Q (left - 1) false
  less = lane.value left (eqb t.keyed 1) pos most

  pub field_bad : {f : Failure} (k : Error) → f ≡ failure k t.at → r ≡ Err (refusal.Error k) → run o a 0 (drop a.at s) ≡ Err f
  field_bad k g e = turn_bad lead here es' d deep r one k g e

  pub field_bad_text : (i u : ℕ) → r ≡ Err (refusal.Text i u)
      → run o a 0 (drop a.at s) ≡ Err (failure InvalidUtf8 (stop_in s i u))
  field_bad_text i u e = turn_bad_text lead here es' d deep r one i u e

  pub field_full : {f : Failure} → f ≡ failure TooManyRows t.at → (x : Result Out Refusal) → r ≡ x
      → rowless_of x ≡ Err (refusal.Error TooManyRows) → t.rows ≡ 0 → run o a 0 (drop a.at s) ≡ Err f
  field_full h x g e z = turn_full lead here es' d deep r one h x g e z

  pub field_value : t.rows ≢ 0 → (u : ℕ) → r ≡ Ok (out.Value u) → Leads o s es' (cursor u t.names (t.rows - 1) 0) (Q (left - 1) false) a
  field_value z u e = at_place less (turn_on lead here es' d deep r one u t.names 0 (t.rows - 1)
      (λ (x : Place). ended x.opened x.fields) (turn_item lead here es' d deep r one z (Ok (out.Value u)) e))

  pub field_symbol : t.rows ≢ 0 → (u : ℕ) → r ≡ Ok (out.NewSymbol u)
      → Leads o s es' (cursor u (t.names + 1) (t.rows - 1) 0) (Q (left - 1) false) a
  field_symbol z u e = at_place less (turn_on lead here es' d deep r one u (t.names + 1) 0 (t.rows - 1)
      (λ (x : Place). ended x.opened x.fields) (turn_item lead here es' d deep r one z (Ok (out.NewSymbol u)) e))

  pub field_key : t.rows ≢ 0 → (u : ℕ) → r ≡ Ok (out.Key u) → Leads o s es' (cursor u t.names (t.rows - 1) 1) (Q left true) a
  field_key z u e = at_place (lane.key left (eqb t.keyed 1) pos most)
      (turn_on lead here es' d deep r one u t.names 1 (t.rows - 1)
      (λ (x : Place). spot x.opened true x.fields) (turn_item lead here es' d deep r one z (Ok (out.Key u)) e))

  pub field_new_key : t.rows ≢ 0 → (u : ℕ) → r ≡ Ok (out.NewKey u) → Leads o s es' (cursor u (t.names + 1) (t.rows - 1) 1) (Q left true) a
  field_new_key z u e = at_place (lane.key left (eqb t.keyed 1) pos most)
      (turn_on lead here es' d deep r one u (t.names + 1) 1 (t.rows - 1)
      (λ (x : Place). spot x.opened true x.fields) (turn_item lead here es' d deep r one z (Ok (out.NewKey u)) e))

  module _ (z : t.rows ≢ 0) (c : FieldCount) (u : ℕ) (e : r ≡ Ok (out.Container c u)) (room : 0 < d) (some : 0 < c.0)
      (es'' : List ℕ) (q : Answer Step) (all : Resumed o s es' es'' u t.names (t.rows - 1) (d - 1) c.0 q) where
    pub field_held_bad : (f : Failure) → q ≡ Err f → run o a 0 (drop a.at s) ≡ Err f
    field_held_bad f g = held-bad lead here es' d deep r one z c u e room some es'' q all f g

    pub field_held_end : {f : Failure} (l : ℕ) (v : Cursor) → f ≡ failure Truncated v.at → q ≡ Ok (step.End l v) → 0 < l
        → length s ≤ v.at → run o a 0 (drop a.at s) ≡ Err f
    field_held_end l v h g p w = held-end lead here es' d deep r one z c u e room some es'' q all l v h g p w

    pub field_held_good : (v : Cursor) → q ≡ Ok (step.Good v) → v.keyed ≡ 0
        → Leads o s es'' (cursor v.at v.names v.rows 0) (Q (left - 1) false) a
    field_held_good v g k =
        let l = at_place less (held-good lead here es' d deep r one z c u e room some es'' q all v g) in
        subst (λ (n : ℕ). Leads o s es'' (cursor v.at v.names v.rows n) (Q (left - 1) false) a) k l

pub start_field : {o : Options} {s es : List ℕ} {at names rows : ℕ} (Q : ℕ → Bool → Place) (n : ℕ) (a : State)
    → Stands s es at names 0 a → length a.found + rows ≡ min max_rows o.capacity → a.place ≡ Q n false
    → Leads o s es (cursor at names rows 0) (Q n false) a
start_field Q n a h r e = record { next = a; is = refl; stands = h; row = r; place = e }

-- ---- the light part of the loop

-- From an offset on, with left of n fields to come.
pub record Along (strict : Bool) (s es links : List ℕ) (from n at names keyed left : ℕ) : Type 0 where
  pub fair : Fair strict s es links names
  pub within : at ≤ length s
  pub back : n + from ≤ left + at
  pub most : left ≤ n
  pub rest : left ≡ 0 → keyed ≡ 0

module _ {strict : Bool} {s es links : List ℕ} {from n at names keyed left : ℕ}
    (p : Along strict s es links from n at names keyed left) (pos : 0 < left) where
  pub along_value : {es' links' : List ℕ} {u m : ℕ} → Moved strict s es' links' at u m → Along strict s es' links' from n u m 0 (left - 1)
  along_value g = record {
    fair = g.fair;
    within = g.within;
    back = omega (arith, p.back, g.on);
    most = omega (arith, p.most);
    rest = λ _. refl;
  }

  pub along_key : {es' links' : List ℕ} {u m : ℕ} → Moved strict s es' links' at u m → Along strict s es' links' from n u m 1 left
  along_key g = record {
    fair = g.fair;
    within = g.within;
    back = omega (arith, p.back, g.on);
    most = p.most;
    rest = λ z. absurd (omega arith);
  }

  pub along_held : {es' links' es'' links'' : List ℕ} {u m w k : ℕ} (i : ℕ) → Moved strict s es' links' at u m
      → Fair strict s es'' links'' k → i + u ≤ w → w ≤ length s → Along strict s es'' links'' from n w k 0 (left - 1)
  along_held i g h b l = record {
    fair = h;
    within = l;
    back = omega (arith, p.back, g.on);
    most = omega (arith, p.most);
    rest = λ _. refl;
  }
