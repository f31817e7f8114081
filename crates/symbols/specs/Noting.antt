-- What noting a name comes to: it has an entry, it gets one, or there is none left for it.
use Rattle.std.specs.Prelude.{ℕ, ◌+◌, ◌≤◌, ◌<◌, ◌≡◌, List, take, set, None, Some}
use Rattle.format.specs.Item.{Item}
use Rattle.format.specs.Limits.{max_entries}
use Rattle.format.specs.Names.{index}
use Rattle.symbols.specs.Entry.{name_in, names_in, start_in}
use Rattle.symbols.specs.Chains.{Chained}
use Rattle.symbols.specs.declared.lookup.Noted.{Noted}
use Rattle.symbols.specs.declared.lookup.Noted.TheVariants as noted

-- The name x, which begins at start, is the last entry now.
pub record Entered (a b es es' links' : List ℕ) (count : ℕ) (x : Item) (start : ℕ) : Type 0 where
  pub new : index x (names_in a b (take count es)) ≡ None
  pub room : count < max_entries
  pub entry : ℕ
  pub stored : es' ≡ set es count entry
  pub named : name_in a b entry ≡ x
  pub begins : start_in entry ≡ start
  pub chained : Chained a b es' links' (count + 1)

abbrev pub NotedAs : List ℕ → List ℕ → List ℕ → List ℕ → List ℕ → List ℕ → ℕ → Item → ℕ → Noted → Type 0
NotedAs a b es es' links links' count x start (noted.Known i) = (index x (names_in a b (take count es)) ≡ Some i)
    × (i < max_entries) × (es' ≡ es) × (links' ≡ links)
NotedAs a b es es' links links' count x start noted.Entered = Entered a b es es' links' count x start
NotedAs a b es es' links links' count x start noted.Full = (index x (names_in a b (take count es)) ≡ None) × (max_entries ≤ count)
