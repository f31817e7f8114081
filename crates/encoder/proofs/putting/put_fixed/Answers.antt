-- `encoder::putting::put_fixed` meets its contract, kind by kind. Assumes nothing.
use mathlib.Core.List.{[]}
use mathlib.Core.Path.{refl}
use native.Mathlib.Omega.{arith}
use lib.ListN.{length-set}
use Rattle.format.proofs.Headers.{following-single, following_double, following-small}
use Rattle.encoder.proofs.Lengths.{length-fixed}
use Rattle.encoder.proofs.OutputLaws.{fixed-fits, fixed-puts, lead_puts}
use Rattle.encoder.proofs.putting.put_fixed.Goals as goal

pub bounds-out-0 : goal.bounds-out-0
bounds-out-0 c =
    omega (arith, length-fixed (record { kind = c.args.kind; number = c.args.number; content = [] }) _ c.requires.0 refl)

pub slice_bounds-put_number-count : goal.slice_bounds-put_number-count
slice_bounds-put_number-count c =
    simp length-set (omega (
      arith,
      length-fixed (record {
        kind = c.args.kind;
        number = c.args.number;
        content = [];
      }) _ c.requires.0 refl,
    ))

pub slice_bounds-put_number-start : goal.slice_bounds-put_number-start
slice_bounds-put_number-start c =
    simp length-set (omega (
      arith,
      length-fixed (record {
        kind = c.args.kind;
        number = c.args.number;
        content = [];
      }) _ c.requires.0 refl,
    ))

pub put_number-requires : goal.put_number-requires
put_number-requires c = (
  omega arith,
  fixed-fits (record {
    kind = c.args.kind;
    number = c.args.number;
    content = [];
  }) c.args.out.now 4 c.requires.0
      (following-single 0 _ refl c.if-kind-eq-FLOAT32.true) c.requires.1,
)

pub returns-then-kind-eq-FLOAT32 : goal.returns-then-kind-eq-FLOAT32
returns-then-kind-eq-FLOAT32 c =
    fixed-puts (record { kind = c.args.kind; number = c.args.number; content = [] }) c.args.out.now 4
    c.requires.0 (following-single 0 _ refl c.if-kind-eq-FLOAT32.true)
    c.requires.1 _ _ c.put_number.ensures.0 c.put_number.ensures.1

pub slice_bounds-put_number-count-then-kind-eq-FLOAT64 : goal.slice_bounds-put_number-count-then-kind-eq-FLOAT64
slice_bounds-put_number-count-then-kind-eq-FLOAT64 c =
    simp length-set (omega (
      arith,
      length-fixed (record {
        kind = c.args.kind;
        number = c.args.number;
        content = [];
      }) _ c.requires.0 refl,
    ))

pub slice_bounds-put_number-start-then-kind-eq-FLOAT64 : goal.slice_bounds-put_number-start-then-kind-eq-FLOAT64
slice_bounds-put_number-start-then-kind-eq-FLOAT64 c =
    simp length-set (omega (
      arith,
      length-fixed (record {
        kind = c.args.kind;
        number = c.args.number;
        content = [];
      }) _ c.requires.0 refl,
    ))

pub put_number-requires-then-kind-eq-FLOAT64 : goal.put_number-requires-then-kind-eq-FLOAT64
put_number-requires-then-kind-eq-FLOAT64 c = (
  omega arith,
  fixed-fits (record {
    kind = c.args.kind;
    number = c.args.number;
    content = [];
  }) c.args.out.now 8 c.requires.0
      (following_double 0 _ refl c.if-kind-eq-FLOAT64.true) c.requires.1,
)

pub returns-then-kind-eq-FLOAT64 : goal.returns-then-kind-eq-FLOAT64
returns-then-kind-eq-FLOAT64 c =
    fixed-puts (record { kind = c.args.kind; number = c.args.number; content = [] }) c.args.out.now 8
    c.requires.0 (following_double 0 _ refl c.if-kind-eq-FLOAT64.true)
    c.requires.1 _ _ c.put_number-then-kind-eq-FLOAT64.ensures.0 c.put_number-then-kind-eq-FLOAT64.ensures.1

pub returns : goal.returns
returns c =
    lead_puts (record { kind = c.args.kind; number = c.args.number; content = [] }) c.args.out.now c.requires.0
    (following-small 0 _ refl (omega (arith, c.if-kind-eq-FLOAT32.false, c.if-kind-eq-FLOAT64.false, c.requires.0))) c.requires.1
