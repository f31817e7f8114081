-- `messages::label::put_label` meets its contract: the name, a colon and a space, and the subject. Assumes nothing.
use Rattle.ascii.specs.Text.{ascii}
use Rattle.ascii.proofs.Writing.{fits, next, ends}
use Rattle.messages.proofs.Texts.{name-fits, name-put}
use Rattle.messages.proofs.label.put_label.Goals as goal

pub copy-a-requires : goal.copy-a-requires
copy-a-requires c =
    name-fits c.args.name.now c.args.subject.now c.args.out.now c.requires

pub copy-requires : goal.copy-requires
unfolding ascii
copy-requires c =
    let p = name-put c.args.name.now c.args.subject.now c.args.out.now c.requires c.copy-a.ensures in
    fits p

pub copy-requires-2 : goal.copy-requires-2
unfolding ascii
copy-requires-2 c =
    let p = name-put c.args.name.now c.args.subject.now c.args.out.now c.requires c.copy-a.ensures in
    let q = next p _ _ c.copy.ensures in
    fits q

pub returns : goal.returns
unfolding ascii
returns c =
    let p = name-put c.args.name.now c.args.subject.now c.args.out.now c.requires c.copy-a.ensures in
    let q = next p _ _ c.copy.ensures in
    ends (next q _ _ c.copy-2.ensures)
