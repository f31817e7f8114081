-- `bad_text` adds the place in the text to its start. Assumes nothing.
use mathlib.Core.Path.{ap, ◌∙◌}
use Prim.Native.Nat.{ℕ, ◌+◌, ◌-◌}
use native.Mathlib.Omega.{arith}
use lib.ListN.{take, drop, length-take}
use Rattle.format.specs.declared.error.Error.TheVariants.{InvalidUtf8}
use Rattle.format.specs.Answer.{fail}
use Rattle.format.proofs.Utf8.{bad-within}
use Rattle.items.specs.Judging.{stop_in}
use Rattle.reader.proofs.fields.bad_text.Goals as goal

pub overflow_add-place : goal.overflow_add-place
overflow_add-place c =
    let size = c.args.end - c.args.start in
    let rest = drop c.args.start c.args.s.now in
    omega (arith, c.bad_at.ensures, bad-within (take size rest), length-take size rest, c.requires)

pub returns : goal.returns
unfolding stop_in
returns c = c.fail.ensures ∙ ap (λ (i : ℕ). fail InvalidUtf8 (c.args.start + i)) c.bad_at.ensures
