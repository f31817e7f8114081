-- `writer::putting::put_next` meets its contract: what lies before the offset is as it was. Assumes nothing.
use Rattle.format.specs.Rows.{item_at}
use Rattle.encoder.specs.Plan.{encoded_at}
use Rattle.encoder.proofs.OutputLaws.{puts-at}
use Rattle.writer.proofs.putting.put_next.Goals as goal

pub returns : goal.returns
returns c =
    puts-at _ _ (encoded_at c.args.plan.now c.args.i (item_at c.args.text.now c.args.row))
    c.args.out.now _ c.put_row.ensures
