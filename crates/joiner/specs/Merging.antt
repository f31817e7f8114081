-- Two bundles that read, measured one after the other and then written.
use Rattle.std.specs.Prelude.{ℕ, ◌+◌, ◌≤◌, ◌<◌, ◌≡◌, List, [], ◌++◌, length, Option, None, Some, Ok}
use Rattle.format.specs.Limits.{max_rows, max_entries}
use Rattle.format.specs.Item.{Item}
use Rattle.format.specs.Names.{names_from}
use Rattle.format.specs.Reading.{State, items_of, lenient, reading}
use Rattle.format.specs.Canonical.{canonical}
use Rattle.symbols.specs.declared.names.Names.{Names}
use Rattle.encoder.specs.Plan as encoder
use Rattle.rewriter.specs.declared.measuring.Tally.{Tally}
use Rattle.rewriter.specs.declared.putting.Spot.{Spot}
use Rattle.rewriter.specs.Measuring.{Tallied}
use Rattle.rewriter.specs.Putting as putting

-- Before the first item.
abbrev pub begun : Tally
begun = record { at = 0; entries = 0; row = 0; size = 0 }

abbrev pub top : Spot
top = record { at = 0; row = 0; out = 0 }

-- Both bundles read, and have so many rows together.
pub record Both (a b : List ℕ) (rows : ℕ) : Type 0 where
  pub u : State
  pub v : State
  pub first : reading lenient a ≡ Ok u
  pub second : reading lenient b ≡ Ok v
  pub count : rows ≡ length u.found + length v.found

abbrev pub items_of_both : {a b : List ℕ} {rows : ℕ} → Both a b rows → List Item
items_of_both p = items_of p.u.found ++ items_of p.v.found

-- Both bundles read, and there are rows for both.
pub record Fitting (a b : List ℕ) : Type 0 where
  pub rows : ℕ
  pub both : Both a b rows
  pub few : rows ≤ max_rows

-- Both are measured.
pub record Tabled {a b : List ℕ} {rows : ℕ} (p : Both a b rows) (plan : List ℕ) (t : Tally) : Type 0 where
  pub names : Names
  pub tallied : Tallied names plan (items_of_both p) t

-- What measuring both comes to: there is a name too many where they are not measured.
abbrev pub Measured : {a b : List ℕ} {rows : ℕ} → Both a b rows → List ℕ → Option Tally → Type 0
Measured p plan None = max_entries < length (names_from [] (items_of_both p))
Measured p plan (Some t) = Tabled p plan t

-- Both are planned, and fit the buffer.
pub record Planned {a b : List ℕ} {rows : ℕ} (p : Both a b rows) (plan : List ℕ) (capacity : ℕ) : Type 0 where
  pub size : length plan ≡ max_rows
  pub planned : encoder.Planned plan (items_of_both p)
  pub few : length (names_from [] (items_of_both p)) ≤ max_entries
  pub fits : length (canonical (items_of_both p)) ≤ capacity

pub record Ready (a b plan : List ℕ) (capacity : ℕ) : Type 0 where
  pub rows : ℕ
  pub both : Both a b rows
  pub planned : Planned both plan capacity

-- Both are written.
abbrev pub Put : {a b : List ℕ} {rows : ℕ} → Both a b rows → List ℕ → List ℕ → Spot → Type 0
Put p = putting.Put (items_of_both p)
