-- The text stops being good where what is left does, with `due` continuation bytes first. Assumes nothing.
use Rattle.std.specs.Prelude.{Some}
use mathlib.Core.Path.{◌≡◌, sym, ap, ◌∙◌}
use native.Mathlib.Omega.{arith}
use Prim.Native.Nat.{◌≤◌, ◌<◌}
use lib.ListN.{length, get_or}
use Rattle.utf8.proofs.AsciiRuns.{ascii-stop}
use Rattle.utf8.proofs.LeadBytes.{lead, no_lead, tail, no_tail, all_done, too_early}
use Rattle.utf8.proofs.bytewise.scan.Goals as goal
use Rattle.utf8.proofs.bytewise.scan.Goals.{then-due-eq0+in-Some, else-due-eq0+then-b-ge128+then-b-le191, else-b-ge128-via-then-b-ge128+else-b-le191, else-b-ge128-via-else-b-ge128}

pub loop-at-init : goal.loop-at-init
loop-at-init c = ascii-stop _ _ c.requires.0 c.requires.1

pub returns-in_default : goal.returns-in_default
returns-in_default c =
    sym (c.loop-at.invariant ∙ no_lead _ _ c.loop-at-test.true _ c.if-due-eq0.true c.in_default.ensures)

pub returns-else-b-ge128 : goal.returns-else-b-ge128
returns-else-b-ge128 c =
    let high : 0x80 ≤ get_or c.args.s.now c.loop-at.at 0 → 0xbf < get_or c.args.s.now c.loop-at.at 0 = λ l. elim c.else-b-ge128.branch [
      | else-b-ge128-via-then-b-ge128+else-b-le191 w ↦ w.if-b-le191.false
      | else-b-ge128-via-else-b-ge128 w ↦ absurd (omega arith)
    ] in
    sym (c.loop-at.invariant ∙ no_tail _ _ c.loop-at-test.true _ c.if-due-eq0.false high)

pub loop-at-preserved : goal.loop-at-preserved
loop-at-preserved c =
    c.loop-at.invariant
    ∙ elim c.if-due-eq0.branch [
      | then-due-eq0+in-Some w ↦ rw w.due-is (lead _ _ c.loop-at-test.true _ _ w.if-due-eq0.true w.in-Some.ensures)
      | else-due-eq0+then-b-ge128+then-b-le191 w ↦
          rw w.due-is (tail _ _ c.loop-at-test.true _ w.if-due-eq0.false w.if-b-ge128.true w.if-b-le191.true)
    ]

pub returns-then-due-eq0-2 : goal.returns-then-due-eq0-2
returns-then-due-eq0-2 c = sym (c.loop-at.invariant ∙ all_done _ _ c.loop-at-test.false _ c.if-due-eq0-2.true)

pub returns-else-due-eq0-2 : goal.returns-else-due-eq0-2
returns-else-due-eq0-2 c =
    let e : c.loop-at.at ≡ length c.args.s.now = omega arith in
    sym (c.loop-at.invariant ∙ too_early _ _ c.loop-at-test.false _ c.if-due-eq0-2.false ∙ ap Some e)
