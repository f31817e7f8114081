-- `messages::label::put_unknown_option` meets its contract: the label, and the words behind it. Assumes nothing.
use Rattle.ascii.specs.Text.{ascii}
use Rattle.ascii.proofs.Writing.{fits, next, ends}
use Rattle.messages.proofs.Texts.{label-fits, label-put}
use Rattle.messages.proofs.label.put_unknown_option.Goals as goal

pub put_label-a-requires : goal.put_label-a-requires
put_label-a-requires c =
    label-fits c.args.name.now c.args.option.now c.args.out.now c.requires

pub copy-requires : goal.copy-requires
unfolding ascii
copy-requires c =
    let p = label-put c.args.name.now c.args.option.now c.args.out.now c.requires c.put_label-a.ensures in
    fits p

pub returns : goal.returns
unfolding ascii
returns c =
    let p = label-put c.args.name.now c.args.option.now c.args.out.now c.requires c.put_label-a.ensures in
    ends (next p _ _ c.copy.ensures)
