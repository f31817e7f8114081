-- `rows::name::name_row` meets its contract: refused by 9 or 5, guessed, or looked up. Assumes nothing.
use Rattle.format.specs.declared.error.Error.TheVariants.{InvalidRow, UnexpectedKey}
use native.Mathlib.Omega.{arith}
use mathlib.Core.Path.{refl, sym, ◌∙◌}
use Rattle.rows.proofs.RowLaws.{content-text, bad-content, inside, kind-most}
use Rattle.rows.proofs.JudgeLaws.{rule_9, refuse_next, kept_by}
use Rattle.rows.proofs.KindLaws.{name-again}
use Rattle.rows.proofs.NameLaws.{part_item, known_next}
use Rattle.rows.proofs.name.name_row.Goals as goal

pub returns-then-is_bad : goal.returns-then-is_bad
returns-then-is_bad c = record {
  next = λ xs a.
      let r = c.args.row in
      let text = c.args.names.now.first.now in
      let name = c.requires.1 in
      refuse_next a r InvalidRow c.fail.ensures
      (rule_9 text a.progress r (bad-content text r (content-text r.kind (omega arith))
      ∙ sym c.is_bad.ensures ∙ c.if-is_bad.true));
  texts = (refl, refl);
  kept = (kept_by refl _, kept_by refl _);
}

pub returns-then-key_after_key : goal.returns-then-key_after_key
returns-then-key_after_key c = record {
  next = λ xs a.
      let r = c.args.row in
      let text = c.args.names.now.first.now in
      let name = c.requires.1 in
      let fine = bad-content text r (content-text r.kind (omega arith))
      ∙ sym c.is_bad.ensures ∙ c.if-is_bad.false in
      refuse_next a r UnexpectedKey c.fail-then-key_after_key.ensures
      (name-again a r name fine (sym c.key_after_key.ensures ∙ c.if-key_after_key.true));
  texts = (refl, refl);
  kept = (kept_by refl _, kept_by refl _);
}

pub is_part-requires : goal.is_part-requires
is_part-requires c =
    let r = c.args.row in
    let text = c.args.names.now.first.now in
    let h = content-text r.kind (omega (arith, c.requires.1)) in
    let fine = bad-content text r h ∙ sym c.is_bad.ensures
    ∙ c.if-is_bad.false in
    let i = inside text r fine h in
    (c.requires.1, kind-most text r fine, omega (arith, i, c.requires.0.short), omega (arith, i, c.requires.0.short))

pub returns-then-is_part : goal.returns-then-is_part
returns-then-is_part c = record {
  next = λ xs a.
      let r = c.args.row in
      let text = c.args.names.now.first.now in
      let fine = bad-content text r (content-text r.kind (omega (arith, c.requires.1)))
      ∙ sym c.is_bad.ensures
      ∙ c.if-is_bad.false in
      known_next a r (record {
        name = c.requires.1;
        fine = fine;
        alone = sym c.key_after_key.ensures
            ∙ c.if-key_after_key.false;
      }) c.requires.0 _ (omega arith)
      (rw (part_item text r c.requires.1 fine) (c.is_part.ensures c.if-is_part.true)) c.known.ensures.state c.known.ensures.planned;
  texts = (refl, refl);
  kept = (tt, tt);
}

pub looked_up-requires : goal.looked_up-requires
looked_up-requires c =
    let r = c.args.row in
    let text = c.args.names.now.first.now in
    let fine = bad-content text r (content-text r.kind (omega (arith, c.requires.1)))
    ∙ sym c.is_bad.ensures
    ∙ c.if-is_bad.false in (
      c.requires.0,
      record {
        name = c.requires.1;
        fine = fine;
        alone = sym c.key_after_key.ensures
            ∙ c.if-key_after_key.false;
      },
      c.requires.2,
    )
