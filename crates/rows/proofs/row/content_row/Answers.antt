-- `rows::row::content_row` meets its contract: outside the text, no UTF-8, or taken. Assumes nothing.
use Rattle.format.specs.declared.error.Error.TheVariants.{InvalidRow}
use native.Mathlib.Omega.{arith}
use mathlib.Core.Path.{ap, sym, ◌∙◌}
use mathlib.Core.Bool.{not, ◌&&◌}
use lib.Dec.{eqb}
use Rattle.format.specs.Utf8.{utf8}
use Rattle.rows.proofs.RowLaws.{content-end, content-kinds}
use Rattle.rows.proofs.JudgeLaws.{rule_9, ready_more, refuse_next, refuse_text_next, value-next, no_key, no_container, measured-plain}
use Rattle.rows.proofs.KindLaws.{content-bad, content-full, content-small, plain-text, value_none}
use Rattle.rows.proofs.row.content_row.Goals as goal

pub returns-then-outside-clause-next : goal.returns-then-outside-clause-next
returns-then-outside-clause-next c = λ names plan xs a.
    let r = c.args.row in
    let text = c.args.text.now in
    refuse_next a r InvalidRow c.fail.ensures
    (rule_9 text a.progress r (content-bad text r c.requires.2 (omega (arith, c.requires.1))
    ∙ sym c.outside.ensures ∙ c.if-outside.true))

pub content-part-requires : goal.content-part-requires
content-part-requires c = (c.requires.0.short, content-bad _ c.args.row c.requires.2 (omega (arith, c.requires.1)) ∙ sym c.outside.ensures ∙ c.if-outside.false, c.requires.2)

pub invalid_text-requires : goal.invalid_text-requires
invalid_text-requires c =
    let fine = content-bad _ c.args.row c.requires.2 (omega (arith, c.requires.1))
    ∙ sym c.outside.ensures ∙ c.if-outside.false in
    content-end _ c.args.row fine c.requires.2 c.content-part.ensures c.requires.0.short

pub returns-then-bad_text-clause-next : goal.returns-then-bad_text-clause-next
returns-then-bad_text-clause-next c = λ names plan xs a.
    let r = c.args.row in
    let text = c.args.text.now in
    let fine = content-bad text r c.requires.2 (omega (arith, c.requires.1))
    ∙ sym c.outside.ensures ∙ c.if-outside.false in
    refuse_text_next a r c.content-part.ensures c.invalid_text.ensures
    (plain-text a r c.requires.1 fine (content-kinds r.kind c.requires.2).1.1
    (ap (λ bs. eqb r.kind 9 && not (utf8 bs)) (sym c.content-part.ensures)
    ∙ sym c.bad_text.ensures ∙ c.if-bad_text.true))

pub code_of-requires : goal.code_of-requires
code_of-requires c = omega (arith, (content-kinds c.args.row.kind c.requires.2).0)

pub overflow_add-n : goal.overflow_add-n
overflow_add-n c =
    let r = c.args.row in
    let text = c.args.text.now in
    let fine = content-bad text r c.requires.2 (omega (arith, c.requires.1))
    ∙ sym c.outside.ensures
    ∙ c.if-outside.false in
    let h = rw c.code_of.ensures at c.header_len.ensures in
    omega (arith, content-small text r c.requires.2 fine c.requires.0.short _ h)

pub value-requires : goal.value-requires
value-requires c =
    let r = c.args.row in
    let text = c.args.text.now in
    let fine = content-bad text r c.requires.2 (omega (arith, c.requires.1))
    ∙ sym c.outside.ensures
    ∙ c.if-outside.false in
    let h = rw c.code_of.ensures at c.header_len.ensures in
    ready_more c.requires.0 _ (content-small text r c.requires.2 fine c.requires.0.short _ h)

pub returns-clause-next : goal.returns-clause-next
returns-clause-next c = λ names plan xs a.
    let r = c.args.row in
    let text = c.args.text.now in
    let fine = content-bad text r c.requires.2 (omega (arith, c.requires.1))
    ∙ sym c.outside.ensures
    ∙ c.if-outside.false in
    let n = (content-kinds r.kind c.requires.2).1.1 in
    let h = rw c.code_of.ensures at c.header_len.ensures in
    value-next a r _ a.over c.value.ensures c.requires.0.row (content-small text r c.requires.2 fine c.requires.0.short _ h)
    (value_none a r c.requires.1 fine n (ap (λ bs. eqb r.kind 9 && not (utf8 bs))
    (sym c.content-part.ensures)
    ∙ sym c.bad_text.ensures ∙ c.if-bad_text.false))
    (no_key a r c.requires.1) (no_container a r n) (measured-plain a r c.requires.1 _ c.requires.0.row (content-full text r c.requires.2 fine _ h))
