-- `end` is the definition, by cases. Assumes nothing.
use mathlib.Core.Path.{◌≡◌, sym, ◌∙◌}
use Prim.Native.Nat.{◌-◌}
use native.Mathlib.Omega.{arith}
use lib.ListN.{length}
use Rattle.symbols.proofs.MarkLaws.{end_eight, end_four, end_three, end_none}
use Rattle.symbols.proofs.mark.end.Goals as goal

pub returns-then-n-ge8 : goal.returns-then-n-ge8
returns-then-n-ge8 c =
    let n = length c.args.s.now in
    let four : n - 4 - (n - 8) ≡ 4 = omega arith in
    let last : n - (n - 4) ≡ 4 = omega arith in
    let v = rw four at c.number-then-n-ge8-2.ensures in
    let w = rw last at c.number-then-n-ge8-3.ensures in
    (cc (end_eight c.args.h c.args.s.now c.if-n-ge8.true), c.mix.ensures.1)

pub returns-then-n-ge4 : goal.returns-then-n-ge4
returns-then-n-ge4 c =
    let n = length c.args.s.now in
    let last : n - (n - 4) ≡ 4 = omega arith in
    let w = rw last at c.number-then-n-ge4-2.ensures in
    (cc (end_four c.args.h c.args.s.now c.if-n-ge8.false c.if-n-ge4.true), c.mix-then-n-ge4.ensures.1)

pub returns-then-n-eq0 : goal.returns-then-n-eq0
returns-then-n-eq0 c =
    (c.mix-then-n-eq0.ensures.0 ∙ sym (end_none c.args.h c.args.s.now c.if-n-eq0.true), c.mix-then-n-eq0.ensures.1)

pub returns : goal.returns
returns c =
    (c.mix-2.ensures.0 ∙ sym (end_three c.args.h _ c.args.s.now c.if-n-ge4.false c.number-2.ensures), c.mix-2.ensures.1)
