-- `listed::line::put_envelope` meets its contract: two words with their numbers, one after the other, and the newline. Assumes nothing.
use native.Mathlib.Omega.{arith}
use Rattle.ascii.specs.Text.{ascii}
use Rattle.ascii.proofs.Writing.{room, fits, next, next_byte, ends}
use Rattle.listed.proofs.Lines.{envelope-fits, envelope-put}
use Rattle.listed.proofs.line.put_envelope.Goals as goal

pub put_labelled-a-requires : goal.put_labelled-a-requires
unfolding ascii
put_labelled-a-requires c =
    envelope-fits c.args.k c.args.number c.args.out.now c.requires

pub put_labelled-requires : goal.put_labelled-requires
unfolding ascii
put_labelled-requires c =
    let p = envelope-put c.args.k c.args.number c.args.out.now c.requires
    c.put_labelled-a.ensures in
    fits p

pub bounds-out-b : goal.bounds-out-b
unfolding ascii
bounds-out-b c =
    let p = envelope-put c.args.k c.args.number c.args.out.now c.requires
    c.put_labelled-a.ensures in
    let q = next p _ _ c.put_labelled.ensures in
    omega (arith, room q)

pub returns : goal.returns
unfolding ascii
returns c =
    let p = envelope-put c.args.k c.args.number c.args.out.now c.requires
    c.put_labelled-a.ensures in
    let q = next p _ _ c.put_labelled.ensures in
    ends (next_byte q)
