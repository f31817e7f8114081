-- The last rule, the count of rows, after all others. Assumes nothing.
use Rattle.std.specs.Prelude.{Result, Ok, Err}
use Rattle.std.specs.Prelude.{Ok}
use mathlib.Core.Path.{◌≡◌, ◌∙◌}
use mathlib.Core.Logic.{◌≢◌}
use mathlib.Core.Bool.{true, false}
use mathlib.Core.List.{List, ◌∷◌}
use Prim.Native.Nat.{ℕ, ◌+◌, ◌-◌, min}
use native.Mathlib.Omega.{arith}
use lib.ListN.{length}
use Rattle.format.specs.Limits.{max_rows}
use Rattle.format.specs.declared.error.Error.TheVariants.{InvalidUtf8, TooManyRows}
use Rattle.format.specs.Answer.{Answer, fail}
use Rattle.format.specs.Place.{Place, ended}
use Rattle.format.specs.Reading.{Options, State}
use Rattle.format.proofs.Tests.{leb_yes, leb_no, pick_yes, pick_no}
use Rattle.items.specs.declared.item.Out.{Out}
use Rattle.items.specs.declared.item.Out.TheVariants as out
use Rattle.items.specs.declared.item.Refusal.{Refusal}
use Rattle.items.specs.declared.item.Refusal.TheVariants as refusal
use Rattle.items.specs.Judging.{Stands, spot, rowed, stop_in, Goes, Judged}

-- What an item comes to where there is no row for it.
abbrev pub rowless_of : Result Out Refusal → Result Out Refusal
rowless_of (Err (refusal.Error e)) = Err (refusal.Error e)
rowless_of (Err (refusal.Text i e)) = Err (refusal.Text i e)
rowless_of (Ok (out.Value u)) = Err (refusal.Error TooManyRows)
rowless_of (Ok (out.Key u)) = Err (refusal.Error TooManyRows)
rowless_of (Ok (out.NewSymbol u)) = Err (refusal.Error TooManyRows)
rowless_of (Ok (out.NewKey u)) = Err (refusal.Error TooManyRows)
rowless_of (Ok (out.Container n u)) = Err (refusal.Error TooManyRows)

-- An answer is good, with a state that offset and counts stand for, at a place, with rows left.
pub record Taken (o : Options) (s es : List ℕ) (at names keyed rows : ℕ) (p : Place) (r : Answer State) : Type 0 where
  pub next : State
  pub is : r ≡ Ok next
  pub stands : Stands s es at names keyed next
  pub place : next.place ≡ p
  pub row : length next.found + rows ≡ min max_rows o.capacity

abbrev pub Takes : Options → List ℕ → List ℕ → ℕ → ℕ → State → Answer State → Result Out Refusal → Type 0
Takes o s es names rows a r (Err (refusal.Error e)) = r ≡ fail e a.at
Takes o s es names rows a r (Err (refusal.Text i e)) = r ≡ fail InvalidUtf8 (stop_in s i e)
Takes o s es names rows a r (Ok (out.Value u)) = Taken o s es u names 0 (rows - 1) (ended a.place.opened a.place.fields) r
Takes o s es names rows a r (Ok (out.Key u)) = Taken o s es u names 1 (rows - 1) (spot a.place.opened true a.place.fields) r
Takes o s es names rows a r (Ok (out.NewSymbol u)) = Taken o s es u (names + 1) 0 (rows - 1) (ended a.place.opened a.place.fields) r
Takes o s es names rows a r (Ok (out.NewKey u)) = Taken o s es u (names + 1) 1 (rows - 1) (spot a.place.opened true a.place.fields) r
Takes o s es names rows a r (Ok (out.Container n u)) = Taken o s es u names 0 (rows - 1)
    (spot (n.0 ∷ a.place.opened) false a.place.fields) r

module _ (o : Options) (a : State) (rows : ℕ) (e : length a.found + rows ≡ min max_rows o.capacity) where
  full : rows ≡ 0 → (b : State) → rowed o a b ≡ fail TooManyRows a.at
  unfolding rowed
  full z b = pick_yes _ _ (leb_yes {a = min max_rows o.capacity} {b = length a.found} (omega arith))

  vacant : rows ≢ 0 → (b : State) → rowed o a b ≡ Ok b
  unfolding rowed
  vacant n b = pick_no _ _ (leb_no {a = min max_rows o.capacity} {b = length a.found} (omega (arith, n)))

  module _ (s es : List ℕ) (r : Answer State) where
    taken : {at names keyed : ℕ} {p : Place} → rows ≢ 0 → Goes o s es at names keyed p a r → Taken o s es at names keyed (rows - 1) p r
    taken n g = record {
      next = g.next;
      is = g.is ∙ vacant n g.next;
      stands = g.stands;
      place = g.place;
      row = omega (arith, n, g.row);
    }

    refused : {at names keyed : ℕ} {p : Place} → rows ≡ 0 → Goes o s es at names keyed p a r → r ≡ fail TooManyRows a.at
    refused z g = g.is ∙ full z g.next

    pub takes : (names : ℕ) (x : Result Out Refusal) → rows ≢ 0 → Judged o s es names a r x → Takes o s es names rows a r x
    takes names (Err (refusal.Error e)) n j = j
    takes names (Err (refusal.Text i e)) n j = j
    takes names (Ok (out.Value u)) n j = taken n j
    takes names (Ok (out.Key u)) n j = taken n j
    takes names (Ok (out.NewSymbol u)) n j = taken n j
    takes names (Ok (out.NewKey u)) n j = taken n j
    takes names (Ok (out.Container k u)) n j = taken n j

    pub takes_none : (names : ℕ) (x : Result Out Refusal) → rows ≡ 0 → Judged o s es names a r x → Takes o s es names rows a r (rowless_of x)
    takes_none names (Err (refusal.Error e)) z j = j
    takes_none names (Err (refusal.Text i e)) z j = j
    takes_none names (Ok (out.Value u)) z j = refused z j
    takes_none names (Ok (out.Key u)) z j = refused z j
    takes_none names (Ok (out.NewSymbol u)) z j = refused z j
    takes_none names (Ok (out.NewKey u)) z j = refused z j
    takes_none names (Ok (out.Container k u)) z j = refused z j
