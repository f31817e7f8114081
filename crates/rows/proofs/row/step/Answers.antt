-- `rows::row::step` meets its contract, kind by kind. Assumes nothing.
use Rattle.format.specs.declared.error.Error.TheVariants.{InvalidRow}
use native.Mathlib.Omega.{arith}
use mathlib.Core.Path.{refl, sym, ◌∙◌}
use Rattle.rows.proofs.RowLaws.{row_is, content-none, bad-start}
use Rattle.rows.proofs.JudgeLaws.{rule_9, refuse_next, kept_by, next_row}
use Rattle.rows.proofs.row.step.Goals as goal

pub content_row-requires : goal.content_row-requires
content_row-requires c = (c.requires.0, c.if-kind-ge-SYMBOL.false, sym c.has_content.ensures ∙ c.if-has_content.true)

pub returns-then-has_content : goal.returns-then-has_content
returns-then-has_content c = record {
  next = λ xs a. c.content_row.ensures.next _ _ xs a;
  texts = (refl, refl);
  kept = (kept_by refl _, c.content_row.ensures.kept);
}

pub returns-then-row-gt0 : goal.returns-then-row-gt0
returns-then-row-gt0 c = record {
  next = λ xs a.
      let r = c.args.row in
      refuse_next a r InvalidRow c.fail.ensures
      (rule_9 _ a.progress r
      (bad-start _ r (sym c.has_content.ensures
      ∙ c.if-has_content.false) c.if-row-gt0.true));
  texts = (refl, refl);
  kept = (kept_by refl _, kept_by refl _);
}

pub returns-then-kind-eq-CONTAINER : goal.returns-then-kind-eq-CONTAINER
returns-then-kind-eq-CONTAINER c = record {
  next = λ xs a. next_row
      (row_is c.args.row 8
      c.if-kind-eq-CONTAINER.true (omega (arith, c.if-row-gt0.false)))
      (c.container_row.ensures.next _ _ _ xs a);
  texts = (refl, refl);
  kept = (kept_by refl _, c.container_row.ensures.kept);
}

pub plain_row-requires : goal.plain_row-requires
plain_row-requires c =
    let h = sym c.has_content.ensures ∙ c.if-has_content.false in
    ((_, c.requires.0), omega (arith, c.if-kind-eq-CONTAINER.false, content-none _ h), h)

pub returns : goal.returns
returns c = record {
  next = λ xs a. next_row
      (row_is c.args.row _ refl
      (omega (arith, c.if-row-gt0.false))) (c.plain_row.ensures.next _ _ _ xs a);
  texts = (refl, refl);
  kept = (kept_by refl _, c.plain_row.ensures.kept);
}
