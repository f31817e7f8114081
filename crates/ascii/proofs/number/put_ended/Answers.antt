-- `ascii::number::put_ended` meets its contract: the number, and the byte after it. Assumes nothing.
use mathlib.Core.List.{[], ◌∷◌}
use native.Mathlib.Omega.{arith}
use Rattle.ascii.specs.Text.{decimal, ended}
use Rattle.ascii.proofs.Writing.{first_fits, first, room, next_byte, ends}
use Rattle.ascii.proofs.number.put_ended.Goals as goal

pub put_decimal-at-requires : goal.put_decimal-at-requires
unfolding ended
put_decimal-at-requires c =
    first_fits (decimal c.args.n) ((c.args.end ∷ []) ∷ []) c.args.out.now c.requires

pub bounds-out-at : goal.bounds-out-at
unfolding ended
bounds-out-at c =
    let q = first (decimal c.args.n) ((c.args.end ∷ []) ∷ []) c.args.out.now
    c.requires _ _ c.put_decimal-at.ensures in
    omega (arith, room q)

pub returns : goal.returns
unfolding ended
returns c =
    let q = first (decimal c.args.n) ((c.args.end ∷ []) ∷ []) c.args.out.now
    c.requires _ _ c.put_decimal-at.ensures in
    ends (next_byte q)
