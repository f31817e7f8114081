-- `number` reads a payload, most significant byte first. Assumes nothing.
use mathlib.Core.Path.{refl}
use Prim.Native.Nat.{◌<◌}
use native.Mathlib.Omega.{arith}
use Rattle.format.specs.Header.{big_endian}
use Rattle.wire.proofs.HeaderLaws.{big_endian_step, more, most}
use Rattle.wire.proofs.header.number.Goals as goal

pub loop-b-init : goal.loop-b-init
unfolding big_endian
loop-b-init c = (refl, omega arith)

pub overflow_mul-p : goal.overflow_mul-p
overflow_mul-p c =
    omega (arith, more c.loop-b.p 0 c.loop-b.b-index c.loop-b.invariant.1 (omega arith), most c.loop-b.b-index (omega arith))

pub overflow_add-p : goal.overflow_add-p
overflow_add-p c =
    let b : c.from.result < 256 = omega (arith, c.type_inv.bytes c.loop-b.b-index) in
    omega (arith, more c.loop-b.p _ c.loop-b.b-index c.loop-b.invariant.1 b, most c.loop-b.b-index (omega arith))

pub loop-b-preserved : goal.loop-b-preserved
loop-b-preserved c =
    let b : c.from.result < 256 = omega (arith, c.type_inv.bytes c.loop-b.b-index) in (
      cc (big_endian_step c.args.bytes.now c.loop-b.b-index c.loop-b-test.true),
      more c.loop-b.p _ c.loop-b.b-index c.loop-b.invariant.1 b,
    )
