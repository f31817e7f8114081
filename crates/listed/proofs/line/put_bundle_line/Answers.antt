-- `listed::line::put_bundle_line` meets its contract: three words with their numbers, one after the other, and the
-- newline. Assumes nothing.
use native.Mathlib.Omega.{arith}
use Rattle.ascii.specs.Text.{ascii}
use Rattle.ascii.proofs.Writing.{room, fits, next, next_byte, ends}
use Rattle.listed.proofs.Lines.{bundle-fits, bundle-put}
use Rattle.listed.proofs.line.put_bundle_line.Goals as goal

pub put_labelled-a-requires : goal.put_labelled-a-requires
unfolding ascii
put_labelled-a-requires c =
    bundle-fits c.args.k c.args.word.now c.args.n c.args.other.now c.args.m c.args.out.now c.requires

pub put_labelled-requires : goal.put_labelled-requires
unfolding ascii
put_labelled-requires c =
    let p = bundle-put c.args.k c.args.word.now c.args.n c.args.other.now c.args.m
    c.args.out.now c.requires c.put_labelled-a.ensures in
    fits p

pub put_labelled-requires-2 : goal.put_labelled-requires-2
unfolding ascii
put_labelled-requires-2 c =
    let p = bundle-put c.args.k c.args.word.now c.args.n c.args.other.now c.args.m
    c.args.out.now c.requires c.put_labelled-a.ensures in
    let q = next p _ _ c.put_labelled.ensures in
    fits q

pub bounds-out-c : goal.bounds-out-c
unfolding ascii
bounds-out-c c =
    let p = bundle-put c.args.k c.args.word.now c.args.n c.args.other.now c.args.m
    c.args.out.now c.requires
    c.put_labelled-a.ensures in
    let q = next p _ _ c.put_labelled.ensures in
    let r = next q _ _ c.put_labelled-2.ensures in
    omega (arith, room r)

pub returns : goal.returns
unfolding ascii
returns c =
    let p = bundle-put c.args.k c.args.word.now c.args.n c.args.other.now c.args.m
    c.args.out.now c.requires
    c.put_labelled-a.ensures in
    let q = next p _ _ c.put_labelled.ensures in
    let r = next q _ _ c.put_labelled-2.ensures in
    ends (next_byte r)
