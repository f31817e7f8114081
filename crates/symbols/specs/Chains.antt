-- Entries with chains: links has a head for each bucket, and then the next of each entry; 0 ends a chain, and i + 1 is entry i.
-- A chain goes from the last entry of a bucket to the one before it, and so on. The names are all different.
use Rattle.std.specs.Prelude.{ℕ, ◌+◌, ◌≤◌, ◌<◌, ◌≡◌, false, List, length, get_or}
use Rattle.format.specs.Limits.{max_entries}
use Rattle.format.specs.Names.{same_name}
use Rattle.symbols.specs.Entry.{buckets, bucket, name_in, Sound}

pub record Table (a b es : List ℕ) (count : ℕ) : Type 0 where
  pub size : length es ≡ max_entries
  pub few : count ≤ max_entries
  pub sound : (i : ℕ) → i < count → Sound a b (get_or es i 0)

abbrev pub links_size : ℕ
links_size = buckets + max_entries

pub record Chained (a b es links : List ℕ) (count : ℕ) : Type 0 where
  pub table : Table a b es count
  pub size : length links ≡ links_size
  pub head_le : (k : ℕ) → k < buckets → get_or links k 0 ≤ count
  pub head_in : (k v : ℕ) → k < buckets → get_or links k 0 ≡ v + 1 → bucket (get_or es v 0) ≡ k
  pub head_past : (j : ℕ) → j < count → j < get_or links (bucket (get_or es j 0)) 0
  pub next_le : (i : ℕ) → i < count → get_or links (buckets + i) 0 ≤ i
  pub next_in : (i v : ℕ) → i < count → get_or links (buckets + i) 0 ≡ v + 1 → bucket (get_or es v 0) ≡ bucket (get_or es i 0)
  pub next_past : (i j : ℕ) → i < count → j < i → bucket (get_or es j 0) ≡ bucket (get_or es i 0) → j < get_or links (buckets + i) 0
  pub unlike : (i j : ℕ) → i < count → j < i → same_name (name_in a b (get_or es i 0)) (name_in a b (get_or es j 0)) ≡ false
