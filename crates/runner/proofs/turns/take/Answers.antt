-- `runner::turns::take` meets its contract: what waits is what waited and what is made of the envelope. Assumes nothing.
use Rattle.std.proofs.Common.{length, arith, rules}
use Rattle.stream.proofs.WindowLaws.{part_length}
use Rattle.stream.proofs.Taking.{Made, taken_ready}
use Rattle.runner.proofs.turns.take.Goals as goal

pub returns-else-space-MAX_OUTPUT-clause-ready : goal.returns-else-space-MAX_OUTPUT-clause-ready
returns-else-space-MAX_OUTPUT-clause-ready g c =
    let s = c.args.s.now in
    let output = c.args.output.now in
    let laws = g.met.P.Program in
    let long = part_length s.filled (length output) output (omega arith) in
    let m : Made g.P.Program.filter s c.put.result _ c.args.input.now output c.put.new.out =
    record {
      ready = c.requires.0;
      inside = laws.inside;
      short = laws.short;
      space = omega (arith, long, laws.most, c.MAX_OUTPUT.ensures, c.if-space-MAX_OUTPUT.false);
      makes = rw c.unread.ensures at c.put.ensures;
    } in
    taken_ready m c.advance.new.self c.advance.ensures _ (search rules)
