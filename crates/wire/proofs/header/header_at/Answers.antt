-- `header_at` is the header of what stands from an offset on, or cut. Assumes nothing.
use Rattle.std.specs.Prelude.{Some}
use mathlib.Core.Path.{refl, ap, sym, ◌∙◌}
use native.Mathlib.Omega.{arith}
use Rattle.format.proofs.Headers.{following-le, payload-inside, payload-after}
use Rattle.wire.proofs.HeaderLaws.{no_header, found, cut-header, whole-header, inline-header}
use Rattle.wire.proofs.header.header_at.Goals as goal

pub returns-in_err-lead : goal.returns-in_err-lead
returns-in_err-lead c = c.from_residual.ensures ∙ sym (no_header _ _ c.in_err-lead.ensures.lookup.3)

pub returns-then-from-le-MAX_INLINE : goal.returns-then-from-le-MAX_INLINE
returns-then-from-le-MAX_INLINE c =
    rw (found _ _ _ c.in_ok-lead.ensures.lookup.3.0 (c.in_ok-lead.ensures.lookup.3.1 0))
    (cc (ap Some c.new.ensures, inline-header _ _ c.if-code-ne-BINARY.true (omega (arith, c.from.ensures))))

pub returns-then-rest-n : goal.returns-then-rest-n
returns-then-rest-n c =
    rw (found _ _ _ c.in_ok-lead.ensures.lookup.3.0 (c.in_ok-lead.ensures.lookup.3.1 0))
    (sym (cut-header _ _ _ c.following-n.ensures c.if-rest-n.true))

pub returns-then-n-eq0 : goal.returns-then-n-eq0
returns-then-n-eq0 c =
    rw (found _ _ _ c.in_ok-lead.ensures.lookup.3.0 (c.in_ok-lead.ensures.lookup.3.1 0))
    (ap Some c.new-then-n-eq0.ensures
    ∙ sym (whole-header _ _ _ c.following-n.ensures c.if-rest-n.false _ _
    (c.inline_payload.ensures ∙ sym (payload-inside _ _ _ _ c.if-n-eq0.true)) (omega arith)))

pub payload-requires : goal.payload-requires
payload-requires c = (omega arith, c.if-rest-n.false, rw c.following-n.ensures (following-le _ _ (omega arith)))

pub returns : goal.returns
returns c =
    rw (found _ _ _ c.in_ok-lead.ensures.lookup.3.0 (c.in_ok-lead.ensures.lookup.3.1 0))
    (ap Some c.new-2.ensures
    ∙ sym (whole-header _ _ _ c.following-n.ensures c.if-rest-n.false _ _
    (c.payload.ensures ∙ sym (payload-after _ _ _ _ c.if-n-eq0.false)) refl))
