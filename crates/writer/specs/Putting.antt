-- Rows over a text that can be written as they were planned.
use Rattle.std.specs.Prelude.{ℕ, ◌≤◌, ◌<◌, ◌≡◌, false, List, [], length}
use Rattle.format.specs.declared.row.Row.{Row}
use Rattle.format.specs.Limits.{max_bytes, max_entries}
use Rattle.format.specs.WellFormed.{All}
use Rattle.format.specs.Names.{names_from}
use Rattle.format.specs.Canonical.{canonical}
use Rattle.format.specs.Rows.{items_at}
use Rattle.format.specs.Writing.{is_bad}
use Rattle.encoder.specs.Plan.{Planned}
use Rattle.rows.specs.Plan.{plan_size}

pub record Putting (text plan : List ℕ) (rs : List Row) (capacity : ℕ) : Type 0 where
  pub long : length plan ≡ plan_size
  pub short : 0 < length rs → length text ≤ max_bytes
  pub fine : All (λ (r : Row). is_bad text r ≡ false) rs
  pub planned : Planned plan (items_at text rs)
  pub few : length (names_from [] (items_at text rs)) ≤ max_entries
  pub fits : length (canonical (items_at text rs)) ≤ capacity
