-- `put_header` writes the shortest header, in each of its three ways. Assumes nothing.
use mathlib.Core.Path.{◌≡◌, sym, ◌∙◌}
use mathlib.Core.Bool.{Bool, true, false}
use Prim.Native.Nat.{ℕ, ◌+◌, ◌≤◌, ◌<◌}
use native.Mathlib.Omega.{arith}
use borrow.Author.Tests.{ltb-true, ltb-false}
use lib.Dec.{ltb}
use lib.ListN.{length-set}
use Rattle.format.specs.Limits.{max_inline}
use Rattle.format.proofs.Numbers.{width_holds}
use Rattle.format.proofs.Headers.{length-short, length-long}
use Rattle.wire.proofs.OutputLaws.{put-short, put_two, long-fits, put-long}
use Rattle.wire.proofs.WidthLaws.{one_byte}
use Rattle.wire.proofs.Wrote.{finish_all}
use Rattle.wire.proofs.output.put_header.Goals as goal

-- The payload stands in the lead byte.
inline : {n : ℕ} {b : Bool} → b ≡ ltb n (max_inline + 1) → b ≡ true → n < max_inline + 1
inline e t = ltb-true _ _ (sym e ∙ t)

-- It stands after it.
long : {n : ℕ} {b : Bool} → b ≡ ltb n (max_inline + 1) → b ≡ false → max_inline + 1 ≤ n
long e f = ltb-false _ _ (sym e ∙ f)

pub bounds-out-0 : goal.bounds-out-0
bounds-out-0 c = omega (arith, length-short _ _ (inline c.is_inline.ensures c.if-is_inline.true))

pub returns-then-is_inline : goal.returns-then-is_inline
returns-then-is_inline c = put-short _ _ _ c.requires.1 _
    (inline c.is_inline.ensures c.if-is_inline.true) c.inline_lead.ensures

pub overflow_cast-out-2 : goal.overflow_cast-out-2
overflow_cast-out-2 c = omega (arith, c.width-k.ensures, (width_holds _ c.ranges.p.fits).most)

pub overflow_add-out-2 : goal.overflow_add-out-2
overflow_add-out-2 c = omega (arith, c.width-k.ensures, (width_holds _ c.ranges.p.fits).most)

pub bounds-out-0-2 : goal.bounds-out-0-2
bounds-out-0-2 c = omega (arith, length-long _ _ (long c.is_inline.ensures c.if-is_inline.false))

pub overflow_cast-out-then-k-eq1 : goal.overflow_cast-out-then-k-eq1
overflow_cast-out-then-k-eq1 c =
    omega (arith, one_byte (omega (arith, c.width-k.ensures)) c.ranges.p.fits)

pub bounds-out-1 : goal.bounds-out-1
bounds-out-1 c =
    simp length-set
    (omega (arith, c.width-k.ensures, length-long _ _ (long c.is_inline.ensures c.if-is_inline.false)))

pub returns-then-k-eq1 : goal.returns-then-k-eq1
returns-then-k-eq1 c =
    put_two _ _ _ c.requires.1 _ (long c.is_inline.ensures c.if-is_inline.false)
    (one_byte (omega (arith, c.width-k.ensures)) c.ranges.p.fits) (omega arith)

pub slice_bounds-put_number-count : goal.slice_bounds-put_number-count
slice_bounds-put_number-count c =
    simp length-set (omega (arith, length-long _ _ (long c.is_inline.ensures c.if-is_inline.false)))

pub slice_bounds-put_number-start : goal.slice_bounds-put_number-start
slice_bounds-put_number-start c =
    simp length-set (omega (arith, length-long _ _ (long c.is_inline.ensures c.if-is_inline.false)))

pub put_number-requires : goal.put_number-requires
put_number-requires c = (
  omega (arith, c.width-k.ensures, (width_holds _ c.ranges.p.fits).most),
  long-fits _ _ c.args.out.now c.requires.1 _ (long c.is_inline.ensures c.if-is_inline.false)
      c.width-k.ensures,
)

pub overflow_add-result : goal.overflow_add-result
overflow_add-result c =
    omega (arith, c.put_number.ensures.0, c.width-k.ensures, (width_holds _ c.ranges.p.fits).most)

pub returns : goal.returns
returns c =
    let l = long c.is_inline.ensures c.if-is_inline.false in
    let whole = put-long _ _ c.args.out.now c.requires.1 _ l c.width-k.ensures _ _ c.put_number.ensures.0
    c.put_number.ensures.1 in
    finish_all whole (omega (arith, c.put_number.ensures.0, c.width-k.ensures, length-long _ _ l))
