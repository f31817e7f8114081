-- `programs::sources::serve_all` meets its contract. Assumes nothing.
use native.Mathlib.Omega.{arith}
use Rattle.programs.specs.Exit.{no_input}
use Rattle.programs.proofs.Requests.{served-all, served-input, served-more}
use Rattle.programs.proofs.sources.serve_all.Goals as goal

pub returns-then-count-lt2 : goal.returns-then-count-lt2
returns-then-count-lt2 g c =
    let one = served-input g.P.Program.filter c.args.count c.new-s.result c.serve.result in
    one (omega (arith, c.if-count-lt2.true)) c.new-s.ensures c.serve.ensures

pub loop-i-init : goal.loop-i-init
loop-i-init g c = rw c.new-s.ensures no_input

pub loop-i-preserved : goal.loop-i-preserved
loop-i-preserved g c =
    served-more _ _ c.args.count _ c.loop-i.invariant (omega (arith, c.loop-i.auto.i)) _ c.if-s.false c.if-s-2.false c.serve_file-s.ensures

pub returns : goal.returns
returns g c =
    served-all _ _ c.args.count _ c.loop-i.invariant (omega (arith, c.if-count-lt2.false))
    (omega (arith, c.loop-i-test.false, c.loop-i.auto.i-end))
