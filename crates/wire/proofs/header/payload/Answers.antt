-- `payload` is one byte, or the first of several. Assumes nothing.
use mathlib.Core.Path.{ap, ◌∙◌}
use Prim.Native.Nat.{ℕ, ◌-◌, ◌*◌, ◌/◌, ◌^◌}
use native.Mathlib.Omega.{arith}
use Rattle.wire.proofs.HeaderLaws.{big_endian_one}
use Rattle.wire.proofs.Powers.{first-bytes}
use Rattle.wire.proofs.header.payload.Goals as goal

pub returns-then-n-eq1 : goal.returns-then-n-eq1
returns-then-n-eq1 c = c.from.ensures ∙ big_endian_one c.args.s.now _ c.if-n-eq1.true (omega arith)

pub returns : goal.returns
returns c =
    ap (λ (x : ℕ). x / 2 ^ (8 * (c.span-m.result - c.args.n))) c.number.ensures
    ∙ first-bytes c.args.s.now c.args.n c.span-m.result (λ i. omega (arith, c.type_inv.s i)) c.span-m.ensures.1 c.span-m.ensures.0
