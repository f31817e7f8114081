-- `rows::row::container_row` meets its contract: too deep, with no fields, or with some. Assumes nothing.
use Rattle.format.specs.declared.error.Error.TheVariants.{TooDeep}
use native.Mathlib.Omega.{arith}
use mathlib.Core.Path.{refl, ◌∙◌}
use Rattle.format.specs.declared.row.Row.{Row}
use Rattle.format.proofs.Tests.{ltb_yes, ltb_no}
use Rattle.encoder.proofs.Lengths.{header-most}
use Rattle.rows.proofs.JudgeLaws.{ready_more, refuse_next, value-next, open_next, no_key, a_container, measured-plain}
use Rattle.rows.proofs.KindLaws.{plain-deep, container-none, container-fine, container-full}
use Rattle.rows.proofs.row.container_row.Goals as goal

pub returns-then-s-ge-MAX_DEPTH-clause-next : goal.returns-then-s-ge-MAX_DEPTH-clause-next
returns-then-s-ge-MAX_DEPTH-clause-next c = λ text names plan xs a.
    let r : Row = record { kind = 8; number = c.args.number; start = 0 } in
    refuse_next a r TooDeep c.fail.ensures
    (plain-deep a r (omega arith) (container-fine text r.number) refl c.if-s-ge-MAX_DEPTH.true)

pub value-requires : goal.value-requires
value-requires c = ready_more c.requires.1 _ (omega
    (arith, c.header_len-n.ensures, header-most 3 c.args.number (omega arith)))

pub returns-then-number-eq0-clause-next : goal.returns-then-number-eq0-clause-next
returns-then-number-eq0-clause-next c = λ text names plan xs a.
    let w = c.requires.1 in
    let n = c.args.number in
    let r : Row = record { kind = 8; number = n; start = 0 } in
    let h = c.header_len-n.ensures in
    value-next a r _ a.over c.value.ensures w.row (omega (arith, h, header-most 3 n (omega arith)))
    (container-none a r (omega arith) (container-fine text n) refl c.if-s-ge-MAX_DEPTH.false)
    (no_key a r (omega arith))
    (a_container a r refl ∙ ltb_no {a = 0} {b = n} (omega (arith, c.if-number-eq0.true)))
    (measured-plain a r (omega arith) _ w.row (h ∙ container-full text n))

pub descend-requires : goal.descend-requires
descend-requires c =
    let w = c.requires.1 in
    let h = header-most 3 c.args.number (omega arith) in
    (w.stack, c.if-s-ge-MAX_DEPTH.false, omega (arith, w.row), omega (arith, w.small, w.row, c.header_len-n.ensures))

pub returns-clause-next : goal.returns-clause-next
returns-clause-next c = λ text names plan xs a.
    let w = c.requires.1 in
    let n = c.args.number in
    let r : Row = record { kind = 8; number = n; start = 0 } in
    let h = c.header_len-n.ensures in
    open_next a r _ c.descend.ensures.state c.descend.ensures.stored c.if-s-ge-MAX_DEPTH.false
    (omega (arith, h, header-most 3 n (omega arith)))
    (container-none a r (omega arith) (container-fine text n) refl c.if-s-ge-MAX_DEPTH.false)
    (no_key a r (omega arith))
    (a_container a r refl ∙ ltb_yes {a = 0} {b = n} (omega (arith, c.if-number-eq0.false)))
    (measured-plain a r (omega arith) _ w.row (h ∙ container-full text n))
