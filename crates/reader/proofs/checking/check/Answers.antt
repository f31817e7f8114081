-- `check` is `check_in`, leniently. Assumes nothing.
use mathlib.Core.Path.{ap, ◌∙◌}
use Rattle.format.specs.declared.error.Mode.{Mode}
use Rattle.format.specs.Limits.{max_rows}
use Rattle.format.specs.Reading.{options, counts}
use Rattle.reader.proofs.checking.check.Goals as goal

pub returns : goal.returns
returns c = c.check_in.ensures
    ∙ ap (λ (m : Mode). counts (options m max_rows) c.args.bytes.now) c.default.ensures
