-- `rewriter::putting::put_next` meets its contract: the item stands after what was written. Assumes nothing.
use Prim.Native.Nat.{◌+◌}
use lib.ListN.{get_or}
use Rattle.rewriter.specs.Items.{rewritten}
use mathlib.Core.Path.{refl}
use native.Mathlib.Omega.{arith}
use Rattle.encoder.proofs.OutputLaws.{puts-at}
use Rattle.rewriter.proofs.PutSteps.{room, fits_here, tail_long, inside, content-whole, put_on}
use Rattle.rewriter.proofs.putting.put_next.Goals as goal

pub slice_bounds-put_item-count : goal.slice_bounds-put_item-count
slice_bounds-put_item-count c = let k = c.requires.0 in omega (arith, fits_here k.planning k.putting c.requires.1)

pub slice_bounds-put_item-start : goal.slice_bounds-put_item-start
slice_bounds-put_item-start c = let k = c.requires.0 in omega (arith, fits_here k.planning k.putting c.requires.1)

pub offset_bounds-plan-row : goal.offset_bounds-plan-row
offset_bounds-plan-row c =
    let k = c.requires.0 in
    record { fits = omega (arith, room k.planning k.putting c.requires.1) }

pub bounds-plan-row : goal.bounds-plan-row
bounds-plan-row c =
    let k = c.requires.0 in
    omega (arith, room k.planning k.putting c.requires.1, k.planning.size)

pub overflow_add-w : goal.overflow_add-w
overflow_add-w c =
    let k = c.requires.0 in omega (arith, inside k.planning k.putting c.requires.1, k.planning.short)

pub put_item-r-requires : goal.put_item-r-requires
put_item-r-requires c =
    let k = c.requires.0 in
    (content-whole k.planning k.putting c.requires.1, k.planning.short, tail_long k.planning k.putting c.requires.1)

pub overflow_add-result : goal.overflow_add-result
overflow_add-result c =
    let k = c.requires.0 in omega (arith, room k.planning k.putting c.requires.1)

pub overflow_add-result-2 : goal.overflow_add-result-2
overflow_add-result-2 c =
    let k = c.requires.0 in
    omega (arith, fits_here k.planning k.putting c.requires.1, c.put_item-r.ensures.puts.0)

pub returns : goal.returns
returns c =
    λ zs ws u old g p. put_on g p c.requires.1 _ _ c.put_item-r.ensures.ends refl
    (puts-at _ _ (rewritten c.args.s.now (get_or c.args.plan.now c.args.w.row 0)
    (c.args.w.at + c.args.h.size) c.args.h) _ _ c.put_item-r.ensures.puts)
