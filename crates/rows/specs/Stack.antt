-- The place among containers as judging keeps it: how many are open, the fields left in the innermost, and a stack of
-- the fields left around it.
-- At the top the fields left are more than there can be rows, so that they never end.
use Rattle.std.specs.Prelude.{ℕ, zero, suc, ◌+◌, ◌-◌, ◌≤◌, ◌≡◌, List, [], ◌∷◌, eqb, ltb, length, get_or}
use Rattle.format.specs.Choice.{pick}
use Rattle.format.specs.Limits.{max_rows, max_depth}
use Rattle.format.specs.Place.{Place}
use Rattle.rows.specs.declared.place.Level.{Level}

abbrev pub top_fields : ℕ
top_fields = max_rows + 1

-- Of each open container, the innermost first, the fields left.
unfoldable pub opened_of : List ℕ → ℕ → ℕ → List ℕ
opened_of st zero l = []
opened_of st (suc d) l = l ∷ opened_of st d (get_or st d 0)

-- The fields left at the top.
unfoldable pub bottom : List ℕ → ℕ → ℕ → ℕ
bottom st zero l = l
bottom st (suc d) l = bottom st d (get_or st d 0)

-- A value is whole, and with it each container of which it was the last field.
unfoldable pub closed : List ℕ → ℕ → ℕ → Level
closed st zero l = record { depth = 0; left = l - 1 }
closed st (suc d) l = let outer = closed st d (get_or st d 0) in pick (ltb l 2) outer (record { depth = suc d; left = l - 1 })

-- The stack stands for a place, after so many rows.
pub record Stands (st : List ℕ) (depth left keyed row : ℕ) (p : Place) : Type 0 where
  pub size : length st ≡ max_depth
  pub deep : depth ≤ max_depth
  pub high : top_fields ≤ row + bottom st depth left
  pub opened : p.opened ≡ opened_of st depth left
  pub key : p.keyed ≡ eqb keyed 1
