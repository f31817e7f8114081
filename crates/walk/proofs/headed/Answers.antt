-- `headed` goes by the code of a header: `Steps.antt` has what each form gives. Assumes nothing.
use mathlib.Core.Path.{refl, sym, ap, ◌∙◌}
use native.Mathlib.Omega.{arith}
use Prim.Native.Nat.{ℕ, ◌+◌}
use Rattle.format.specs.Reading.{content}
use Rattle.format.proofs.Forms.{form-bytes, form-container, form-reference, form-text}
use Rattle.wire.proofs.CodeLaws.{code-within, form-number, is_zero}
use Rattle.walk.proofs.Steps.{near, form_small, fixed_on, reference-small, reference-on, content-small, content-on, name-few, name-on}
use Rattle.walk.proofs.headed.Goals as goal

pub overflow_add-next : goal.overflow_add-next
overflow_add-next c = omega (arith, near c.requires.1.walks c.requires.2)

pub kind_of-requires : goal.kind_of-requires
kind_of-requires c =
    let w = code-within 1 2 c.args.h.code (sym c.is_integer.ensures ∙ c.if-is_integer.true) in omega (arith, w.1)

pub returns-then-is_integer : goal.returns-then-is_integer
returns-then-is_integer c =
    let w = code-within 1 2 c.args.h.code (sym c.is_integer.ensures ∙ c.if-is_integer.true) in
    let f = form-number c.args.h w.0 (omega (arith, w.1)) in
    λ bs e o u s p. fixed_on p e _ _ f (rw (c.number_of-n.ensures, c.kind_of.ensures) at c.fixed.ensures)

pub referred-requires : goal.referred-requires
referred-requires c =
    reference-small c.requires.1.walks c.requires.2 (form-reference c.args.h c.if-code-ge-REFERENCE.true)

pub returns-then-code-ge-REFERENCE : goal.returns-then-code-ge-REFERENCE
returns-then-code-ge-REFERENCE c =
    λ bs e o u s p. reference-on p e (form-reference c.args.h c.if-code-ge-REFERENCE.true) c.referred.ensures refl

pub name-requires : goal.name-requires
name-requires c =
    let above = c.if-code-ge-SYMBOL.true in
    let below = c.if-code-ge-REFERENCE.false in
    let f = form-text c.args.h (omega (arith, above)) (omega (arith, below)) in
    let p = c.requires.1.walks in
    let e = c.requires.2 in
    rw (c.of-len.ensures, c.kind_of-then-code-ge-SYMBOL.ensures)
    (omega (arith, above), omega (arith, below), near p e, content-small p e f, name-few p e f (omega (arith, above)))

pub returns-then-code-ge-SYMBOL : goal.returns-then-code-ge-SYMBOL
returns-then-code-ge-SYMBOL c =
    let above = c.if-code-ge-SYMBOL.true in
    let below = c.if-code-ge-REFERENCE.false in
    let f = form-text c.args.h (omega (arith, above)) (omega (arith, below)) in
    let entered = rw c.kind_of-then-code-ge-SYMBOL.ensures at c.name.ensures in
    λ bs e o u s p. name-on p e f (omega (arith, above)) (omega (arith, below)) c.of-len.ensures entered.entered entered.walked

pub content-requires : goal.content-requires
content-requires c =
    let p = c.requires.1.walks in
    let e = c.requires.2 in
    (near p e, rw c.of.ensures (content-small p e (form-text c.args.h (omega (arith, c.if-code-eq-STRING.true)) (omega (arith, c.if-code-eq-STRING.true)))))

pub returns-then-code-eq-STRING : goal.returns-then-code-eq-STRING
returns-then-code-eq-STRING c =
    let f = form-text c.args.h (omega (arith, c.if-code-eq-STRING.true))
    (omega (arith, c.if-code-eq-STRING.true)) ∙ ap (λ (c : ℕ). content (c + 5)) c.if-code-eq-STRING.true in
    λ bs e o u s p. content-on p e f (omega arith) c.of.ensures c.content.ensures

pub returns-then-code-eq-CONTAINER : goal.returns-then-code-eq-CONTAINER
returns-then-code-eq-CONTAINER c =
    λ bs e o u s p. fixed_on p e _ _ (form-container c.args.h c.if-code-eq-CONTAINER.true)
    (rw c.of-count.ensures at c.fixed-then-code-eq-CONTAINER.ensures)

pub returns-then-sz-lt-BYTES : goal.returns-then-sz-lt-BYTES
returns-then-sz-lt-BYTES c =
    let z = is_zero c.args.h.code
    (sym c.is_integer.ensures
    ∙ c.if-is_integer.false)
    (omega (arith, c.if-code-ge-SYMBOL.false, c.if-code-eq-STRING.false, c.if-code-eq-CONTAINER.false)) in
    λ bs e o u s p. fixed_on p e _ _ (form_small p e z c.if-sz-lt-BYTES.true) c.fixed-then-sz-lt-BYTES.ensures

pub content-requires-2 : goal.content-requires-2
content-requires-2 c =
    let z = is_zero c.args.h.code
    (sym c.is_integer.ensures
    ∙ c.if-is_integer.false)
    (omega (arith, c.if-code-ge-SYMBOL.false, c.if-code-eq-STRING.false, c.if-code-eq-CONTAINER.false)) in
    let p = c.requires.1.walks in
    let e = c.requires.2 in
    (near p e, rw c.of-2.ensures (content-small p e (form-bytes c.args.h z c.if-sz-lt-BYTES.false)))

pub returns : goal.returns
returns c =
    let z = is_zero c.args.h.code
    (sym c.is_integer.ensures
    ∙ c.if-is_integer.false)
    (omega (arith, c.if-code-ge-SYMBOL.false, c.if-code-eq-STRING.false, c.if-code-eq-CONTAINER.false)) in
    λ bs e o u s p. content-on p e (form-bytes c.args.h z c.if-sz-lt-BYTES.false) (omega arith)
    c.of-2.ensures c.content-2.ensures
