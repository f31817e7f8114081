-- `filled_in` fills the front of the table, which has as many rows as the bundle. Assumes nothing.
use Rattle.std.proofs.lemmas.List.{length-take-le}
use Rattle.reader.proofs.FillSteps.{fills_front}
use Rattle.reader.proofs.reading.filled_in.Goals as goal

pub returns : goal.returns
returns c = fills_front _ _ _ (rw (length-take-le _ _ c.requires.room) at c.fill.ensures)
