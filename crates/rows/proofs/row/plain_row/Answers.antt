-- `rows::row::plain_row` meets its contract: rule 9 is about its number alone. Assumes nothing.
use Rattle.format.specs.declared.error.Error.TheVariants.{InvalidRow}
use native.Mathlib.Omega.{arith}
use mathlib.Core.Path.{refl, ap, sym, ◌∙◌}
use Rattle.format.specs.Canonical.{full}
use lib.ListN.{length}
use Rattle.format.specs.declared.row.Row.{Row}
use Rattle.format.proofs.Tests.{eqb_no, and_no_left}
use Rattle.rows.proofs.RowLaws.{bad-plain}
use Rattle.rows.proofs.JudgeLaws.{rule_9, refuse_next, value-next, no_container, no_key, measured-plain}
use Rattle.rows.proofs.KindLaws.{value_none, bare}
use Rattle.rows.proofs.row.plain_row.Goals as goal

pub returns-then-bad_number-clause-next : goal.returns-then-bad_number-clause-next
returns-then-bad_number-clause-next c = λ text names plan xs a.
    let r : Row = record { kind = c.args.kind; number = c.args.number; start = 0 } in
    let bad = bad-plain text r (omega arith) c.requires.2 refl ∙ sym c.bad_number.ensures ∙ c.if-bad_number.true in
    refuse_next a r InvalidRow c.fail.ensures (rule_9 text a.progress r bad)

pub returns-clause-next : goal.returns-clause-next
returns-clause-next c = λ text names plan xs a.
    let r : Row = record {
      kind = c.args.kind;
      number = c.args.number;
      start = 0;
    } in
    let fine = bad-plain text r (omega arith) c.requires.2 refl ∙ sym c.bad_number.ensures
    ∙ c.if-bad_number.false in
    let w = c.requires.0.1 in
    value-next a r _ a.over c.value.ensures w.row (omega (arith, c.plain_len.ensures.1))
    (value_none a r (omega arith) fine (λ e. omega arith) (and_no_left _ (eqb_no {a = r.kind} {b = 9} (λ e. omega arith))))
    (no_key a r (omega arith)) (no_container a r (λ e. omega arith))
    (measured-plain a r (omega arith) _ w.row (c.plain_len.ensures.0
    ∙ ap (λ x. length (full x)) (sym (bare text r.kind r.number c.requires.2))))
