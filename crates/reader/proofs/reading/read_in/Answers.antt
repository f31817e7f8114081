-- `read_in`: the rows that are filled in are those that were counted, for which the table has room; on an error none.
use mathlib.Core.Path.{sym, ap, ◌∙◌}
use native.Mathlib.Omega.{arith}
use lib.ListN.{length}
use Rattle.std.proofs.lemmas.Result.{err_from_is_err_and}
use Rattle.format.specs.Reading.{Options, options}
use Rattle.reader.specs.Answers.{rows_in}
use Rattle.reader.proofs.FillSteps.{counted-within, unfilled}
use Rattle.reader.proofs.reading.read_in.Goals as goal

pub filled_in-requires : goal.filled_in-requires
unfolding rows_in
filled_in-requires c =
    let o : Options = options c.args.mode (length c.args.rows.now) in
    let count = ap rows_in (sym c.in_ok-bundle.was ∙ c.walk.ensures _ (omega (arith, c.min.ensures))) in
    record { o = o; count = count; room = counted-within o c.args.bytes.now count }

pub returns : goal.returns
unfolding rows_in
returns c =
    let o : Options = options c.args.mode (length c.args.rows.now) in
    let good = sym c.in_ok-bundle.was ∙ c.walk.ensures _ (omega (arith, c.min.ensures)) in
    record { answer = good; filled = c.filled_in.ensures o (ap rows_in good) }

pub returns-in_err-bundle : goal.returns-in_err-bundle
returns-in_err-bundle c =
    let failed = err_from_is_err_and c.from_residual.result c.from_residual.ensures.1 in
    let bad = sym c.in_err-bundle.was ∙ c.walk.ensures (length c.args.rows.now) (omega (arith, c.min.ensures)) in
    rw (failed.1, failed.2) (record { answer = bad; filled = unfilled _ _ bad _ })
