-- `rewriter::measuring::referred` meets its contract. Assumes nothing.
use mathlib.Core.Path.{refl, ap, ◌∙◌}
use native.Mathlib.Omega.{arith}
use Rattle.encoder.proofs.Lengths.{header-most}
use Rattle.rewriter.specs.Measuring.{tallied}
use Rattle.rewriter.proofs.measuring.referred.Goals as goal

pub after-requires : goal.after-requires
after-requires c = (c.requires.1, omega (arith, c.requires, c.header_len-n.ensures, header-most 7 c.args.i (omega arith)))

pub returns : goal.returns
returns c = record {
  state = c.after.ensures ∙ ap (tallied c.args.t c.args.at c.args.entries) c.header_len-n.ensures;
  planned = refl;
}
