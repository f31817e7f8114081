-- `rows::name::looked_up` meets its contract: no UTF-8, known, new, or one name too many. Assumes nothing.
use Rattle.format.specs.declared.error.Error.TheVariants.{TooManyEntries}
use native.Mathlib.Omega.{arith}
use mathlib.Core.Path.{refl, ap, sym, ◌∙◌}
use mathlib.Core.Bool.{not}
use Rattle.format.specs.Utf8.{utf8}
use Rattle.symbols.specs.declared.names.Names.{Names}
use Rattle.rows.proofs.RowLaws.{content-end, inside, kind-most}
use Rattle.rows.proofs.JudgeLaws.{refuse_next, refuse_text_next, kept_by}
use Rattle.rows.proofs.KindLaws.{name_invalid, fresh-full}
use Rattle.rows.proofs.NameLaws.{has_content_lem, name-stands, looked_up, among, known_next, fresh-next}
use Rattle.rows.proofs.name.looked_up.Goals as goal

pub content-part-requires : goal.content-part-requires
content-part-requires c = (c.requires.0.short, c.requires.1.fine, has_content_lem c.args.names.now.first.now c.args.row c.requires.1.name c.requires.1.fine)

pub invalid_text-requires : goal.invalid_text-requires
invalid_text-requires c =
    content-end _ c.args.row c.requires.1.fine (has_content_lem _ c.args.row c.requires.1.name c.requires.1.fine)
    c.content-part.ensures c.requires.0.short

pub returns-then-not-is_utf8 : goal.returns-then-not-is_utf8
returns-then-not-is_utf8 c = record {
  next = λ xs a.
      let w = c.requires.1 in
      refuse_text_next a c.args.row c.content-part.ensures c.invalid_text.ensures
      (name_invalid a c.args.row w.name w.fine w.alone
      (ap not (ap utf8 (sym c.content-part.ensures)
      ∙ sym c.is_utf8.ensures) ∙ ap not c.if-not-is_utf8.true));
  texts = (refl, refl);
  kept = (refl, refl);
}

pub key_of-key-requires : goal.key_of-key-requires
key_of-key-requires c = let w = name-stands c.args.names.now.first.now
    c.args.row c.requires.1.name c.requires.1.fine c.args.names.now refl c.requires.0.short
    c.content-part.ensures in
    (w.low, w.high, w.short)

pub note-requires : goal.note-requires
note-requires c =
    let w = c.requires.1 in (
      name-stands c.args.names.now.first.now c.args.row w.name w.fine c.args.names.now refl c.requires.0.short
          c.content-part.ensures,
      c.key_of-key.ensures.0,
    )

pub overflow_cast-i : goal.overflow_cast-i
overflow_cast-i c = let n = rw c.in-Known.is at c.note.ensures in omega (arith, n.1)

pub fresh-requires : goal.fresh-requires
fresh-requires c = let r = c.args.row in
    let text = c.args.names.now.first.now in
    let n = rw c.in-Entered.is at c.note.ensures in
    let i = inside text r c.requires.1.fine (has_content_lem text r c.requires.1.name c.requires.1.fine) in (
      (text, c.requires.0),
      c.requires.2,
      omega (arith, n.grown.room),
      c.requires.1.name,
      kind-most text r c.requires.1.fine,
      omega (arith, i, c.requires.0.short),
    )

pub returns-in-Known : goal.returns-in-Known
returns-in-Known c =
    let r = c.args.row in
    let n = rw c.in-Known.is at c.note.ensures in
    rw n.2 (record {
      next = λ xs a. known_next a r c.requires.1 c.requires.0 _ (omega (arith, n.1))
          (looked_up a r c.requires.1 c.requires.0 c.content-part.ensures n.0)
          c.known.ensures.state c.known.ensures.planned;
      texts = (refl, refl);
      kept = (tt, tt);
    })

pub returns-in-Entered : goal.returns-in-Entered
returns-in-Entered c =
    let n = rw c.in-Entered.is at c.note.ensures in
    let u = ap utf8 (sym c.content-part.ensures) ∙ sym c.is_utf8.ensures ∙ c.if-not-is_utf8.false in
    record {
      next = λ xs a. fresh-next a c.args.row c.requires.1 c.requires.0 _ _ c.content-part.ensures u n
          c.fresh.ensures.state c.fresh.ensures.planned;
      texts = (n.grown.first, n.grown.second);
      kept = (tt, tt);
    }

pub returns-in-Full : goal.returns-in-Full
returns-in-Full c =
    let r = c.args.row in
    let w = c.requires.1 in
    let n = rw c.in-Full.is at c.note.ensures in
    let u = ap utf8 (sym c.content-part.ensures)
    ∙ sym c.is_utf8.ensures
    ∙ c.if-not-is_utf8.false in
    record {
      next = λ xs a.
          let e = looked_up a r w c.requires.0 c.content-part.ensures n.0 in
          refuse_next a r TooManyEntries c.fail.ensures (fresh-full a r w.name w.fine w.alone (among a r w c.requires.0 e) u n.1);
      texts = (ap (λ (u : Names). u.first.now) n.2, ap (λ (u : Names). u.second.now) n.2);
      kept = (kept_by n.2 _, kept_by refl _);
    }
