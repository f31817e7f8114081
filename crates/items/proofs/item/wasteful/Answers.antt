-- `wasteful` is the first rule. Assumes nothing.
use mathlib.Core.Path.{sym, ◌∙◌}
use mathlib.Core.Bool.{and-false}
use Rattle.format.specs.Header.{is_negative_alias}
use Rattle.format.proofs.Tests.{eqb_yes, eqb_no}
use Rattle.items.proofs.item.wasteful.Goals as goal

pub returns-then-size-eq1 : goal.returns-then-size-eq1
returns-then-size-eq1 c = rw (c.requires c.if-size-eq1.true, and-false c.args.strict)

pub returns-then-not-strict : goal.returns-then-not-strict
returns-then-not-strict c = rw c.if-not-strict.true

pub returns-then-is_long : goal.returns-then-is_long
unfolding is_negative_alias
returns-then-is_long c = rw (c.if-not-strict.false, sym c.is_long.ensures ∙ c.if-is_long.true)

pub returns-then-code-eq-NEGATIVE : goal.returns-then-code-eq-NEGATIVE
unfolding is_negative_alias
returns-then-code-eq-NEGATIVE c = rw (
  c.if-not-strict.false,
  sym c.is_long.ensures ∙ c.if-is_long.false,
  eqb_yes c.if-code-eq-NEGATIVE.true,
)

pub returns : goal.returns
unfolding is_negative_alias
returns c = rw (
  c.if-not-strict.false,
  sym c.is_long.ensures ∙ c.if-is_long.false,
  eqb_no c.if-code-eq-NEGATIVE.false,
)
