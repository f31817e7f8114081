-- Items measured one after the other: the table of their names, their canonical length, and for each name how it is written.
use Rattle.std.specs.Prelude.{ℕ, ◌≤◌, ◌≡◌, true, List, [], ltb, length, take, get_or, Option, None, Some, slice_get}
use Rattle.format.specs.Choice.{pick}
use Rattle.format.specs.Code as Code
use Rattle.format.specs.Limits.{max_rows, max_entries}
use Rattle.format.specs.Header.{header}
use Rattle.format.specs.Item.{Item, is_name}
use Rattle.format.specs.Names.{index, names_from}
use Rattle.format.specs.Utf8.{utf8}
use Rattle.format.specs.Canonical.{canonical, full}
use Rattle.symbols.specs.declared.names.Names.{Names}
use Rattle.symbols.specs.Names.{names_of}

-- In place of an index: a name in full.
abbrev pub no_index : ℕ
no_index = max_entries

-- A reference in the plan.
unfoldable pub refer_to : Option ℕ → ℕ
refer_to None = no_index
refer_to (Some i) = i

-- A name by such a reference, where bs is the name in full.
unfoldable pub referring : ℕ → List ℕ → List ℕ
referring r bs = pick (ltb r no_index) (header Code.reference r) bs

-- Item i, by the plan.
unfoldable pub encoded_at : List ℕ → ℕ → Item → List ℕ
encoded_at plan i x = pick (is_name x) (referring (get_or plan i 0) (full x)) (full x)

-- The plan has the reference of each name.
pub record Planned (plan : List ℕ) (xs : List Item) : Type 0 where
  pub long : length xs ≤ max_rows
  pub refers : (j : ℕ) (x : Item) → slice_get xs j ≡ Some x → is_name x ≡ true → get_or plan j 0 ≡ refer_to (index x (names_from [] (take j xs)))

-- The items xs are measured: their names are those of a table. The plan is an array of so many slots.
pub record Measured (slots : ℕ) (t : Names) (plan : List ℕ) (xs : List Item) (size : ℕ) : Type 0 where
  pub names : names_of t ≡ names_from [] xs
  -- so that a name that stands in the table need not be looked at again
  pub texts : (i : ℕ) (x : Item) → slice_get (names_from [] xs) i ≡ Some x → utf8 x.content ≡ true
  pub length_is : size ≡ length (canonical xs)
  pub plan_size : length plan ≡ slots
  pub wide : max_rows ≤ slots
  pub planned : Planned plan xs
