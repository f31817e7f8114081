-- `rows::name::fresh` meets its contract. Assumes nothing.
use native.Mathlib.Omega.{arith}
use mathlib.Core.Path.{refl, ap, ◌∙◌}
use Prim.Native.Nat.{ℕ, ◌+◌, ◌-◌}
use Rattle.format.specs.Kind as Kind
use Rattle.rows.specs.Steps.{named_by}
use Rattle.encoder.proofs.Lengths.{header-most}
use Rattle.rows.proofs.JudgeLaws.{ready_more}
use Rattle.rows.proofs.name.fresh.Goals as goal

pub overflow_add-n : goal.overflow_add-n
overflow_add-n c =
    let r = c.args.row in
    let h = rw c.code_of.ensures at c.header_len.ensures in
    omega (arith, h, header-most (r.kind - Kind.bytes) r.number (omega (arith, c.requires.5)), c.requires.5)

pub named-requires : goal.named-requires
named-requires c =
    let r = c.args.row in
    let h = rw c.code_of.ensures at c.header_len.ensures in
    ready_more c.requires.0.1 _
    (omega (arith, h, header-most (r.kind - Kind.bytes) r.number (omega (arith, c.requires.5)), c.requires.5))

pub returns : goal.returns
returns c =
    let h = rw c.code_of.ensures at c.header_len.ensures in
    record {
      state = c.named.ensures ∙ ap (named_by _ _ _) (ap (λ (n : ℕ). n + c.args.row.number) h);
      planned = refl;
    }
