-- `writer::putting::put_row` meets its contract: a name, a fixed item, or a header with what follows. Assumes nothing.
use mathlib.Core.Path.{sym, ◌∙◌}
use native.Mathlib.Omega.{arith}
use Rattle.rows.proofs.RowLaws.{content-text, kind-most}
use Rattle.writer.proofs.OutputLaws.{at_name, at-fixed, at-header, at_plain}
use Rattle.writer.proofs.putting.put_row.Goals as goal

pub put_fixed-requires : goal.put_fixed-requires
put_fixed-requires c =
    (c.if-kind-lt-BYTES.true, rw (at-fixed c.args.text.now c.args.row c.args.plan.now c.args.i c.if-kind-lt-BYTES.true) at c.requires.4)

pub returns-then-kind-lt-BYTES : goal.returns-then-kind-lt-BYTES
returns-then-kind-lt-BYTES c =
    rw (at-fixed c.args.text.now c.args.row c.args.plan.now c.args.i
    c.if-kind-lt-BYTES.true) c.put_fixed.ensures

pub content-requires : goal.content-requires
content-requires c = (
  c.requires.2,
  c.requires.3,
  content-text _ (omega (arith, c.if-kind-ge-SYMBOL.true)),
)

pub put_named-requires : goal.put_named-requires
put_named-requires c = (
  omega (arith, kind-most c.args.text.now c.args.row c.requires.3),
  rw (c.code_of.ensures, c.content.ensures)
      (rw (at_name c.args.text.now c.args.row c.args.plan.now c.args.i
      c.if-kind-ge-SYMBOL.true) at c.requires.4),
)

pub returns-then-kind-ge-SYMBOL : goal.returns-then-kind-ge-SYMBOL
returns-then-kind-ge-SYMBOL c =
    rw (
      at_name c.args.text.now c.args.row c.args.plan.now c.args.i c.if-kind-ge-SYMBOL.true,
      ← c.content.ensures,
      ← c.code_of.ensures,
    )
    c.put_named.ensures

pub content-requires-then-has_content : goal.content-requires-then-has_content
content-requires-then-has_content c = (
  c.requires.2,
  c.requires.3,
  sym c.has_content.ensures ∙ c.if-has_content.true,
)

pub put_sized-requires : goal.put_sized-requires
put_sized-requires c = (
  omega arith,
  rw (c.code_of-then-has_content.ensures, c.content-then-has_content.ensures)
      (rw (at-header c.args.text.now c.args.row c.args.plan.now c.args.i c.if-kind-lt-BYTES.false
      c.if-kind-ge-SYMBOL.false) at c.requires.4),
)

pub returns-then-has_content : goal.returns-then-has_content
returns-then-has_content c =
    rw (
      at-header c.args.text.now c.args.row c.args.plan.now c.args.i c.if-kind-lt-BYTES.false c.if-kind-ge-SYMBOL.false,
      ← c.content-then-has_content.ensures,
      ← c.code_of-then-has_content.ensures,
    )
    c.put_sized.ensures

pub put_header-requires : goal.put_header-requires
put_header-requires c = (
  omega arith,
  rw c.code_of-2.ensures
      (rw (at_plain c.args.text.now c.args.row c.args.plan.now c.args.i
      c.if-kind-lt-BYTES.false c.if-kind-ge-SYMBOL.false
      (sym c.has_content.ensures ∙ c.if-has_content.false)) at c.requires.4),
)

pub returns : goal.returns
returns c =
    rw (
      at_plain c.args.text.now c.args.row c.args.plan.now c.args.i c.if-kind-lt-BYTES.false c.if-kind-ge-SYMBOL.false
          (sym c.has_content.ensures ∙ c.if-has_content.false),
      ← c.code_of-2.ensures,
    ) c.put_header.ensures
