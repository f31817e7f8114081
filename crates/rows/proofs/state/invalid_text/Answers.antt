-- `rows::state::invalid_text` adds the place in the text to its start. Assumes nothing.
use native.Mathlib.Omega.{arith}
use Rattle.format.proofs.Utf8.{bad-within}
use Rattle.rows.proofs.state.invalid_text.Goals as goal

pub overflow_add-place : goal.overflow_add-place
overflow_add-place c = omega (arith, c.bad_at.ensures, bad-within c.args.part.now, c.requires)

pub returns : goal.returns
returns c = rw (← c.bad_at.ensures) c.beside.ensures
