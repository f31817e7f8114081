-- The state after one more row.
use Rattle.std.specs.Prelude.{ℕ, ◌+◌, List, eqb}
use Rattle.format.specs.Choice.{pick}
use Rattle.format.specs.Kind as Kind
use Rattle.rows.specs.declared.state.State.{State}
use Rattle.rows.specs.Stack.{closed}

-- after a value of n bytes
unfoldable pub valued : List ℕ → State → ℕ → State
valued st s n =
    let to = closed st s.depth s.left in
    record { row = s.row + 1; depth = to.depth; left = to.left; keyed = 0; size = s.size + n }

-- after a key of n bytes
unfoldable pub keyed_by : State → ℕ → State
keyed_by s n = record {
  row = s.row + 1;
  depth = s.depth;
  left = s.left;
  keyed = 1;
  size = s.size + n;
}

-- after a name of n bytes
unfoldable pub named_by : List ℕ → State → ℕ → ℕ → State
named_by st s kind n = pick (eqb kind Kind.key) (keyed_by s n) (valued st s n)

-- after the header, of n bytes, of a container
unfoldable pub opened_by : State → ℕ → ℕ → State
opened_by s fields n = record {
  row = s.row + 1;
  depth = s.depth + 1;
  left = fields;
  keyed = 0;
  size = s.size + n;
}
