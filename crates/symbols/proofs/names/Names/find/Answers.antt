-- Along the chain no entry passed has the name. Assumes nothing.
use mathlib.Core.Path.{sym, ◌∙◌}
use native.Mathlib.Omega.{arith}
use Rattle.symbols.specs.Names.{names_of}
use Rattle.symbols.proofs.ChainLaws.{along_start, along_next, along_hit, along_end}
use Rattle.symbols.proofs.names.Names.find.Goals as goal

pub loop-i-init : goal.loop-i-init
loop-i-init c = rw c.bucket.ensures (along_start _ c.args.self.now.chained c.requires.0 c.requires.1 c.requires.2)

pub returns-then-is_name : goal.returns-then-is_name
unfolding names_of
returns-then-is_name c =
    sym (along_hit _ c.args.self.now.chained c.requires.0 c.requires.1 c.requires.2 c.loop-i.invariant c.in-Some.ensures.0
    _ (c.from-i.ensures ∙ c.in-Some.ensures.1) (sym c.is_name.ensures ∙ c.if-is_name.true))

pub loop-i-preserved : goal.loop-i-preserved
loop-i-preserved c =
    along_next _ c.args.self.now.chained c.requires.0 c.requires.1 c.requires.2 c.loop-i.invariant c.in-Some.ensures.0
    _ (c.from-i.ensures ∙ c.in-Some.ensures.1) (sym c.is_name.ensures ∙ c.if-is_name.false)

pub returns : goal.returns
unfolding names_of
returns c =
    sym (along_end _ c.args.self.now.chained c.requires.0 c.requires.1 c.requires.2 c.loop-i.invariant
    (omega (arith, c.in_default.ensures)))
