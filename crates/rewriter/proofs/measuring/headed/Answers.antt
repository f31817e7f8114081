-- `rewriter::measuring::headed` meets its contract, code by code. Assumes nothing.
use mathlib.Core.Path.{refl, sym, ap, ◌∙◌}
use Prim.Native.Nat.{ℕ, ◌+◌}
use lib.ListN.{length}
use native.Mathlib.Omega.{arith}
use Rattle.wire.proofs.CodeLaws.{code-within}
use Rattle.rewriter.proofs.Arms.{fixed-code, form-held, number-plain, number-full, number-length, fixed_plain, fixed-length, content-plain, content-length}
use Rattle.rewriter.proofs.MeasureSteps.{turned, room, small, inside, plain-on, reference-on, reference-small, held_small}
use Rattle.rewriter.proofs.measuring.headed.Goals as goal

pub overflow_add-next : goal.overflow_add-next
overflow_add-next c =
    let k = c.requires.0 in omega (arith, inside k.bundled k.partway c.requires.1, k.bundled.short)

pub shortest_len-requires : goal.shortest_len-requires
shortest_len-requires c =
    (_, c.requires.1)

pub after-requires : goal.after-requires
after-requires c =
    let k = c.requires.0 in
    (room k.bundled k.partway c.requires.1, omega (arith, c.shortest_len.ensures.1, small k.bundled k.partway c.requires.1))

pub returns-then-is_number : goal.returns-then-is_number
returns-then-is_number c =
    λ zs u w p.
    let n = code-within 1 3 _ (sym c.is_number.ensures ∙ c.if-is_number.true) in
    let v = turned w p c.requires.1 in
    plain-on w p c.requires.1 _ 0 _ (omega arith) (number-plain v n.0 n.1) (c.shortest_len.ensures.0
    ∙ number-length c.args.h.code c.args.h.payload
    (omega (arith, c.struct_known-1.given))
    ∙ ap length (sym (number-full v n.0 n.1))) (omega (arith, c.shortest_len.ensures.1))
    c.after.ensures

pub reference-requires : goal.reference-requires
reference-requires c =
    let k = c.requires.0 in (
      k.partway.width,
      reference-small k.bundled k.partway c.requires.1 c.if-code-ge-REFERENCE.true,
      k.partway.measured.plan_size,
      room k.bundled k.partway c.requires.1,
      small k.bundled k.partway c.requires.1,
    )

pub returns-then-code-ge-REFERENCE : goal.returns-then-code-ge-REFERENCE
returns-then-code-ge-REFERENCE c =
    λ zs u w p. rw c.reference.ensures.planned (reference-on w p c.requires.1 c.if-code-ge-REFERENCE.true
    c.reference.ensures.state)

pub after-requires-then-is_fixed : goal.after-requires-then-is_fixed
after-requires-then-is_fixed c =
    let k = c.requires.0 in (
      room k.bundled k.partway c.requires.1,
      omega (arith, inside k.bundled k.partway c.requires.1, k.bundled.short, small k.bundled k.partway c.requires.1),
    )

pub returns-then-is_fixed : goal.returns-then-is_fixed
returns-then-is_fixed c =
    λ zs u w p.
    let z = fixed-code c.args.h.code c.args.h.sz (sym c.is_fixed.ensures ∙ c.if-is_fixed.true) in
    let v = turned w p c.requires.1 in
    plain-on w p c.requires.1 _ 0 _ (omega arith) (fixed_plain v z.0 z.1) (fixed-length v z.0 z.1)
    (omega (arith, inside w p c.requires.1, w.short)) c.after-then-is_fixed.ensures

pub shortest_len-requires-2 : goal.shortest_len-requires-2
shortest_len-requires-2 c =
    (_, c.requires.1)

pub held-requires : goal.held-requires
held-requires c =
    let k = c.requires.0 in
    let f = form-held c.args.h (sym c.is_number.ensures ∙ c.if-is_number.false)
    (sym c.is_fixed.ensures ∙ c.if-is_fixed.false) c.if-code-ge-REFERENCE.false in (
      room k.bundled k.partway c.requires.1,
      small k.bundled k.partway c.requires.1,
      omega (arith, inside k.bundled k.partway c.requires.1, k.bundled.short),
      c.shortest_len-2.ensures.1,
      rw c.of.ensures (held_small k.bundled k.partway c.requires.1 f),
    )

pub returns : goal.returns
returns c =
    λ zs u w p.
    let f = form-held c.args.h (sym c.is_number.ensures ∙ c.if-is_number.false)
    (sym c.is_fixed.ensures ∙ c.if-is_fixed.false) c.if-code-ge-REFERENCE.false in
    let v = turned w p c.requires.1 in
    plain-on w p c.requires.1 _ _ _ refl (content-plain v f c.if-code-ge-SYMBOL.false)
    (ap (λ (k : ℕ). k + c.args.h.payload) c.shortest_len-2.ensures.0 ∙ content-length v f)
    (omega (arith, held_small w p c.requires.1 f, c.shortest_len-2.ensures.1))
    (rw c.of.ensures at c.held.ensures)
