-- `rewriter::putting::put_item` meets its contract, code by code. Assumes nothing.
use mathlib.Core.Path.{◌≡◌, ap, sym, ◌∙◌}
use Prim.Native.Nat.{ℕ, ◌+◌, ◌-◌}
use native.Mathlib.Omega.{arith}
use Rattle.wire.proofs.CodeLaws.{code-within}
use Rattle.rewriter.specs.Items.{sized}
use Rattle.rewriter.proofs.Arms.{fixed-code}
use Rattle.rewriter.proofs.Rewritten.{rewritten-number, rewritten-reference, rewritten-fixed, rewritten-name, rewritten-sized, ends-number, ends-reference, ends-fixed, ends_held, held-within}
use Rattle.rewriter.proofs.putting.put_item.Goals as goal

pub put_header-requires : goal.put_header-requires
put_header-requires c =
    let n = sym c.is_number.ensures ∙ c.if-is_number.true in
    (omega (arith, code-within 1 3 c.args.h.code n), rw c.number_of.ensures (rw (rewritten-number _ _ _ c.args.h n) at c.requires.2))

pub returns-then-is_number : goal.returns-then-is_number
returns-then-is_number c =
    let n = sym c.is_number.ensures ∙ c.if-is_number.true in record {
      puts = rw (rewritten-number _ _ _ c.args.h n, ← c.number_of.ensures)
          c.put_header.ensures;
      ends = ends-number c.args.s.now c.args.refer _ c.args.h n;
    }

pub put_header-requires-then-code-ge-REFERENCE : goal.put_header-requires-then-code-ge-REFERENCE
put_header-requires-then-code-ge-REFERENCE c =
    let n = sym c.is_number.ensures ∙ c.if-is_number.false in
    (omega arith, rw (rewritten-reference _ _ _ c.args.h n c.if-code-ge-REFERENCE.true) at c.requires.2)

pub returns-then-code-ge-REFERENCE : goal.returns-then-code-ge-REFERENCE
returns-then-code-ge-REFERENCE c =
    let n = sym c.is_number.ensures ∙ c.if-is_number.false in record {
      puts = rw (rewritten-reference c.args.s.now c.args.refer c.args.next c.args.h n c.if-code-ge-REFERENCE.true)
          c.put_header-then-code-ge-REFERENCE.ensures;
      ends = ends-reference c.args.s.now c.args.refer _ c.args.h n
          c.if-code-ge-REFERENCE.true;
    }

pub put_fixed-requires : goal.put_fixed-requires
put_fixed-requires c =
    let n = sym c.is_number.ensures ∙ c.if-is_number.false in
    let f = sym c.is_fixed.ensures ∙ c.if-is_fixed.true in (
      (fixed-code c.args.h.code c.args.h.sz f).1,
      rw (rewritten-fixed c.args.s.now c.args.refer c.args.next
          c.args.h n c.if-code-ge-REFERENCE.false f) at c.requires.2,
    )

pub returns-then-is_fixed : goal.returns-then-is_fixed
returns-then-is_fixed c =
    let n = sym c.is_number.ensures ∙ c.if-is_number.false in
    let f = sym c.is_fixed.ensures ∙ c.if-is_fixed.true in record {
      puts = rw (rewritten-fixed c.args.s.now c.args.refer c.args.next c.args.h n c.if-code-ge-REFERENCE.false f)
          c.put_fixed.ensures;
      ends = ends-fixed c.args.s.now c.args.refer _ c.args.h n c.if-code-ge-REFERENCE.false f;
    }

pub overflow_add-e : goal.overflow_add-e
overflow_add-e c =
    let n = sym c.is_number.ensures ∙ c.if-is_number.false in
    let f = sym c.is_fixed.ensures ∙ c.if-is_fixed.false in
    omega (arith, held-within c.args.s.now c.args.refer c.args.next c.args.h n c.if-code-ge-REFERENCE.false f c.requires.0, c.requires.1)

pub slice_bounds-put_named-end : goal.slice_bounds-put_named-end
slice_bounds-put_named-end c =
    let n = sym c.is_number.ensures ∙ c.if-is_number.false in
    let f = sym c.is_fixed.ensures ∙ c.if-is_fixed.false in
    omega (arith, held-within c.args.s.now c.args.refer c.args.next c.args.h n c.if-code-ge-REFERENCE.false f c.requires.0)

pub put_named-requires : goal.put_named-requires
unfolding sized
put_named-requires c =
    let n = sym c.is_number.ensures ∙ c.if-is_number.false in
    let f = sym c.is_fixed.ensures ∙ c.if-is_fixed.false in
    let d : c.args.next + c.args.h.payload - c.args.next ≡ c.args.h.payload = omega arith in (
      omega (arith, c.if-code-ge-REFERENCE.false),
      rw (c.of-len.ensures, d)
          (rw (rewritten-name c.args.s.now c.args.refer c.args.next c.args.h n c.if-code-ge-REFERENCE.false f
          c.if-code-ge-SYMBOL.true) at c.requires.2),
    )

pub returns-then-code-ge-SYMBOL : goal.returns-then-code-ge-SYMBOL
unfolding sized
returns-then-code-ge-SYMBOL c =
    let n = sym c.is_number.ensures ∙ c.if-is_number.false in
    let f = sym c.is_fixed.ensures ∙ c.if-is_fixed.false in
    let d : c.args.next + c.args.h.payload - c.args.next ≡ c.args.h.payload = omega arith in record {
      puts = rw (rewritten-name c.args.s.now c.args.refer c.args.next c.args.h n c.if-code-ge-REFERENCE.false f
          c.if-code-ge-SYMBOL.true) (rw (c.of-len.ensures, d)
          at c.put_named.ensures);
      ends = ap (λ (n : ℕ). c.args.next + n) c.of-len.ensures
          ∙ ends_held c.args.s.now c.args.refer _ c.args.h n c.if-code-ge-REFERENCE.false f;
    }

pub slice_bounds-put_sized-end : goal.slice_bounds-put_sized-end
slice_bounds-put_sized-end c =
    let n = sym c.is_number.ensures ∙ c.if-is_number.false in
    let f = sym c.is_fixed.ensures ∙ c.if-is_fixed.false in
    omega (arith, held-within c.args.s.now c.args.refer c.args.next c.args.h n c.if-code-ge-REFERENCE.false f c.requires.0)

pub put_sized-requires : goal.put_sized-requires
unfolding sized
put_sized-requires c =
    let n = sym c.is_number.ensures ∙ c.if-is_number.false in
    let f = sym c.is_fixed.ensures ∙ c.if-is_fixed.false in
    let d : c.args.next + c.args.h.payload - c.args.next ≡ c.args.h.payload = omega arith in (
      omega (arith, c.if-code-ge-SYMBOL.false),
      rw (c.of-len.ensures, d)
          (rw (rewritten-sized c.args.s.now c.args.refer c.args.next c.args.h n c.if-code-ge-REFERENCE.false f
          c.if-code-ge-SYMBOL.false) at c.requires.2),
    )

pub returns : goal.returns
unfolding sized
returns c =
    let n = sym c.is_number.ensures ∙ c.if-is_number.false in
    let f = sym c.is_fixed.ensures ∙ c.if-is_fixed.false in
    let d : c.args.next + c.args.h.payload - c.args.next ≡ c.args.h.payload = omega arith in record {
      puts = rw (rewritten-sized c.args.s.now c.args.refer c.args.next c.args.h n c.if-code-ge-REFERENCE.false f
          c.if-code-ge-SYMBOL.false) (rw (c.of-len.ensures, d)
          at c.put_sized.ensures);
      ends = ap (λ (n : ℕ). c.args.next + n) c.of-len.ensures
          ∙ ends_held c.args.s.now c.args.refer _ c.args.h n c.if-code-ge-REFERENCE.false f;
    }
