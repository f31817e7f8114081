-- `listed::line::put_row` meets its contract: four numbers, one after the other. Assumes nothing.
use Rattle.ascii.proofs.Writing.{fits, next, ends}
use Rattle.listed.proofs.Lines.{index-fits, index-put}
use Rattle.listed.proofs.line.put_row.Goals as goal

pub put_ended-a-requires : goal.put_ended-a-requires
put_ended-a-requires c =
    index-fits c.args.i c.args.row c.args.out.now c.requires

pub put_ended-requires : goal.put_ended-requires
put_ended-requires c =
    let p = index-put c.args.i c.args.row c.args.out.now c.requires c.put_ended-a.ensures in
    fits p

pub put_ended-requires-2 : goal.put_ended-requires-2
put_ended-requires-2 c =
    let p = index-put c.args.i c.args.row c.args.out.now c.requires
    c.put_ended-a.ensures in
    let q = next p _ _ c.put_ended.ensures in
    fits q

pub put_ended-requires-3 : goal.put_ended-requires-3
put_ended-requires-3 c =
    let p = index-put c.args.i c.args.row c.args.out.now c.requires
    c.put_ended-a.ensures in
    let q = next p _ _ c.put_ended.ensures in
    let r = next q _ _ c.put_ended-2.ensures in
    fits r

pub returns : goal.returns
returns c =
    let p = index-put c.args.i c.args.row c.args.out.now c.requires
    c.put_ended-a.ensures in
    let q = next p _ _ c.put_ended.ensures in
    let r = next q _ _ c.put_ended-2.ensures in
    ends (next r _ _ c.put_ended-3.ensures)
