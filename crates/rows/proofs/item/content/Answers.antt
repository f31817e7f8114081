-- `rows::item::content` meets its contract: the part is in the text. Assumes nothing.
use native.Mathlib.Omega.{arith}
use Prim.Native.Nat.{◌+◌, ◌-◌}
use mathlib.Core.Path.{◌≡◌}
use Rattle.rows.proofs.RowLaws.{inside, content_part}
use Rattle.rows.proofs.item.content.Goals as goal

pub overflow_add-end : goal.overflow_add-end
overflow_add-end c = omega (arith, inside c.args.text.now c.args.row c.requires.1 c.requires.2)

pub slice_bounds-result-end : goal.slice_bounds-result-end
slice_bounds-result-end c = omega (arith, inside c.args.text.now c.args.row c.requires.1 c.requires.2)

pub returns : goal.returns
returns c =
    let row = c.args.row in
    let e : row.start + row.number - row.start ≡ row.number = omega arith in
    rw e (content_part c.args.text.now row c.requires.1 c.requires.2)
