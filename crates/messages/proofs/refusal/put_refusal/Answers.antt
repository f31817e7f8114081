-- `messages::refusal::put_refusal` meets its contract: the envelope's number, the error, and what it means. Assumes nothing.
use Rattle.ascii.specs.Text.{ascii}
use Rattle.ascii.proofs.Writing.{fits, next, ends}
use Rattle.messages.proofs.Texts.{envelope-fits, envelope-put}
use Rattle.messages.proofs.refusal.put_refusal.Goals as goal

pub put_labelled-a-requires : goal.put_labelled-a-requires
unfolding ascii
put_labelled-a-requires c =
    envelope-fits c.args.k c.args.error c.args.place c.args.out.now c.requires

pub put_error-requires : goal.put_error-requires
unfolding ascii
put_error-requires c =
    let p = envelope-put c.args.k c.args.error c.args.place c.args.out.now c.requires c.put_labelled-a.ensures in
    fits p

pub put_meaning-requires : goal.put_meaning-requires
unfolding ascii
put_meaning-requires c =
    let p = envelope-put c.args.k c.args.error c.args.place c.args.out.now c.requires c.put_labelled-a.ensures in
    let q = next p _ _ c.put_error.ensures in
    fits q

pub returns : goal.returns
unfolding ascii
returns c =
    let p = envelope-put c.args.k c.args.error c.args.place c.args.out.now c.requires c.put_labelled-a.ensures in
    let q = next p _ _ c.put_error.ensures in
    ends (next q _ _ c.put_meaning.ensures)
