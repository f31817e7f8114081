-- `messages::refusal::put_error` meets its contract: two words with their numbers. Assumes nothing.
use Rattle.ascii.specs.Text.{ascii}
use Rattle.ascii.proofs.Writing.{fits, next, ends}
use Rattle.messages.proofs.Texts.{error-fits, error-put}
use Rattle.messages.proofs.refusal.put_error.Goals as goal

pub put_labelled-at-requires : goal.put_labelled-at-requires
unfolding ascii
put_labelled-at-requires c =
    error-fits c.args.error c.args.place c.args.out.now c.requires

pub put_labelled-requires : goal.put_labelled-requires
unfolding ascii
put_labelled-requires c =
    let p = error-put c.args.error c.args.place c.args.out.now c.requires c.put_labelled-at.ensures in
    fits p

pub returns : goal.returns
unfolding ascii
returns c =
    let p = error-put c.args.error c.args.place c.args.out.now c.requires c.put_labelled-at.ensures in
    ends (next p _ _ c.put_labelled.ensures)
