-- `rows::item::plain_len` meets its contract, kind by kind. Assumes nothing.
use mathlib.Core.List.{[]}
use native.Mathlib.Omega.{arith}
use Prim.Native.Nat.{◌-◌}
use mathlib.Core.Path.{refl, ◌∙◌}
use Rattle.format.specs.Kind as Kind
use Rattle.format.proofs.Headers.{following-single, following_double, following-small}
use Rattle.encoder.proofs.Lengths.{header-most, length-fixed, length-sized}
use Rattle.rows.proofs.item.plain_len.Goals as goal

pub returns-then-kind-ge-BYTES : goal.returns-then-kind-ge-BYTES
returns-then-kind-ge-BYTES c =
    let h = rw c.code_of.ensures at c.header_len.ensures in (
      h ∙ omega (
        arith,
        length-sized (record {
          kind = c.args.kind;
          number = c.args.number;
          content = [];
        }) c.if-kind-ge-BYTES.true,
      ),
      rw h (header-most (c.args.kind - Kind.bytes) c.args.number (omega arith)),
    )

pub returns-then-kind-eq-FLOAT32 : goal.returns-then-kind-eq-FLOAT32
returns-then-kind-eq-FLOAT32 c = (
  length-fixed (record {
    kind = _;
    number = _;
    content = [];
  }) 4 (omega (arith, c.if-kind-eq-FLOAT32.true)) (following-single 0 _ refl c.if-kind-eq-FLOAT32.true),
  omega arith,
)

pub returns-then-kind-eq-FLOAT64 : goal.returns-then-kind-eq-FLOAT64
returns-then-kind-eq-FLOAT64 c = (
  length-fixed (record {
    kind = _;
    number = _;
    content = [];
  }) 8 (omega (arith, c.if-kind-eq-FLOAT64.true)) (following_double 0 _ refl c.if-kind-eq-FLOAT64.true),
  omega arith,
)

pub returns : goal.returns
returns c = (
  length-fixed (record {
    kind = _;
    number = _;
    content = [];
  }) 0 (omega (arith, c.if-kind-ge-BYTES.false))
      (following-small 0 _ refl (omega (arith, c.if-kind-ge-BYTES.false, c.if-kind-eq-FLOAT32.false, c.if-kind-eq-FLOAT64.false))),
  omega arith,
)
