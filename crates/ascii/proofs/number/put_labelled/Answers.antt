-- `ascii::number::put_labelled` meets its contract: the word, and the number after it. Assumes nothing.
use Rattle.ascii.proofs.Writing.{fits, next, ends}
use Rattle.ascii.proofs.Labels.{word_fits, word-put}
use Rattle.ascii.proofs.number.put_labelled.Goals as goal

pub copy-at-requires : goal.copy-at-requires
copy-at-requires c =
    word_fits c.args.word.now c.args.n c.args.out.now c.requires

pub put_decimal-requires : goal.put_decimal-requires
put_decimal-requires c =
    let q = word-put c.args.word.now c.args.n c.args.out.now c.requires c.copy-at.ensures in
    fits q

pub returns : goal.returns
returns c =
    let q = word-put c.args.word.now c.args.n c.args.out.now c.requires
    c.copy-at.ensures in
    ends (next q _ _ c.put_decimal.ensures)
