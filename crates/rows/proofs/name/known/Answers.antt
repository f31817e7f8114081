-- `rows::name::known` meets its contract. Assumes nothing.
use native.Mathlib.Omega.{arith}
use mathlib.Core.Path.{refl, ap, ◌∙◌}
use Rattle.rows.specs.Steps.{named_by}
use Rattle.encoder.proofs.Lengths.{header-most}
use Rattle.rows.proofs.JudgeLaws.{ready_more}
use Rattle.rows.proofs.name.known.Goals as goal

pub named-requires : goal.named-requires
named-requires c = ready_more c.requires.0.1 _
    (omega (arith, c.header_len.ensures, header-most 7 c.args.i (omega arith)))

pub returns : goal.returns
returns c = record {
  state = c.named.ensures ∙ ap (named_by _ _ _) c.header_len.ensures;
  planned = refl;
}
