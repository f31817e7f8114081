-- A row that is a name: what is known of it before it is looked up.
use Rattle.std.specs.Prelude.{ℕ, ◌≤◌, ◌≡◌, false, ◌&&◌, List, eqb}
use Rattle.format.specs.declared.row.Row.{Row}
use Rattle.format.specs.Kind as Kind
use Rattle.format.specs.Writing.{is_bad}
use Rattle.rows.specs.declared.state.State.{State}

-- A name that rules 9 and 5 let pass.
pub record Naming (text : List ℕ) (s : State) (r : Row) : Type 0 where
  pub name : Kind.symbol ≤ r.kind
  pub fine : is_bad text r ≡ false
  pub alone : eqb s.keyed 1 && eqb r.kind Kind.key ≡ false
