-- `fields` resumes the run: each turn of its loop is a turn of `Turns`, and the bytes that are left fall. Assumes nothing.
use Rattle.std.specs.Prelude.{Ok}
use Rattle.std.proofs.lemmas.Result.{err_from_is_err_and}
use native.Mathlib.Omega.{arith}
use mathlib.Core.Path.{◌≡◌, refl, ap, ◌∙◌}
use lib.Dec.{eqb}
use Rattle.reader.proofs.Turns.{at_place, start_field, field_bad, field_bad_text, field_full, field_value, field_symbol, field_key, field_new_key, field_held_bad, field_held_end, field_held_good, along_value, along_key, along_held}
use Prim.Native.Nat.{ℕ}
use Rattle.format.specs.Answer.{fail}
use Rattle.reader.proofs.fields.+fields.Goals as goal

pub loop-left-init : goal.loop-left-init
loop-left-init t c =
    let p = c.requires in (
      record {
        fair = p.2;
        within = p.0;
        back = omega arith;
        most = omega arith;
        rest = λ _. refl;
      },
      λ Q o a so l h f e. start_field Q _ a h f e,
    )

pub returns-then-s-at : goal.returns-then-s-at
returns-then-s-at t c =
    let inv = c.loop-left.invariant in
    record {
      went = (inv.0.fair, c.if-s-at.true, c.loop-left-test.true, inv.0.most);
      resumes = inv.1;
    }

pub one-requires : goal.one-requires
one-requires t c =
    (c.loop-left.invariant.0.within, c.requires.1, c.loop-left.invariant.0.fair)

pub returns-in-Err-Error : goal.returns-in-Err-Error
unfolding fail
returns-in-Err-Error t c =
    let inv = c.loop-left.invariant in record {
      went = rw c.fail.ensures tt;
      resumes = λ Q o a so l h f e.
          rw c.fail.ensures (field_bad Q _ _ c.loop-left.left l c.loop-left-test.true inv.0.most (inv.1 Q o a so l h f e) c.if-s-at.false _ _
          (λ b. c.one.ensures.judged o b so) _ refl (rw c.in-Err-Error.field-0-is at c.in-Err-Error.is));
    }

pub bad_text-requires : goal.bad_text-requires
bad_text-requires t c =
    let in_bytes = rw (c.in-Err-Text.is, c.in-Err-Text.field-0-is) at c.one.ensures.moves in
    (in_bytes.0, in_bytes.1, c.requires.1)

pub returns-in-Err-Text : goal.returns-in-Err-Text
unfolding fail
returns-in-Err-Text t c =
    let inv = c.loop-left.invariant in
    let is = c.bad_text.ensures in record {
      went = rw is tt;
      resumes = λ Q o a so l h f e.
          rw is (field_bad_text Q _ _ c.loop-left.left l c.loop-left-test.true inv.0.most (inv.1 Q o a so l h f e) c.if-s-at.false
          _ _ (λ b. c.one.ensures.judged o b so) _ _ (rw c.in-Err-Text.field-0-is at c.in-Err-Text.is));
    }

pub returns-then-rows-eq0 : goal.returns-then-rows-eq0
unfolding fail
returns-then-rows-eq0 t c =
    let inv = c.loop-left.invariant in record {
      went = rw c.fail-then-rows-eq0.ensures tt;
      resumes = λ Q o a so l h f e.
          rw c.fail-then-rows-eq0.ensures (field_full Q _ _ c.loop-left.left l c.loop-left-test.true inv.0.most (inv.1 Q o a so l h f e) c.if-s-at.false _ _
          (λ b. c.one.ensures.judged o b so) refl _ (rw c.in-Ok-Value.field-0-is at c.in-Ok-Value.is) refl c.if-rows-eq0.true);
    }

pub overflow_sub-rows : goal.overflow_sub-rows
overflow_sub-rows t c = omega (arith, c.if-rows-eq0.false)

pub loop-left-smaller-in-Ok-Value : goal.loop-left-smaller-in-Ok-Value
loop-left-smaller-in-Ok-Value t c =
    let g = rw (c.in-Ok-Value.is, c.in-Ok-Value.field-0-is) at c.one.ensures.moves in omega (arith, g.on, g.within)

pub loop-left-preserved-in-Ok-Value : goal.loop-left-preserved-in-Ok-Value
loop-left-preserved-in-Ok-Value t c =
    let inv = c.loop-left.invariant in
    let g = rw (c.in-Ok-Value.is, c.in-Ok-Value.field-0-is) at c.one.ensures.moves in (
      along_value inv.0 c.loop-left-test.true g,
      λ Q o a so l h f e.
          field_value Q _ _ c.loop-left.left l c.loop-left-test.true inv.0.most (inv.1 Q o a so l h f e) c.if-s-at.false _ _
          (λ b. c.one.ensures.judged o b so) c.if-rows-eq0.false _ (rw c.in-Ok-Value.field-0-is at c.in-Ok-Value.is),
    )

pub returns-then-rows-eq0-2 : goal.returns-then-rows-eq0-2
unfolding fail
returns-then-rows-eq0-2 t c =
    let inv = c.loop-left.invariant in record {
      went = rw c.fail-then-rows-eq0-2.ensures tt;
      resumes = λ Q o a so l h f e.
          rw c.fail-then-rows-eq0-2.ensures (field_full Q _ _ c.loop-left.left l c.loop-left-test.true inv.0.most (inv.1 Q o a so l h f e) c.if-s-at.false _ _
          (λ b. c.one.ensures.judged o b so) refl _ (rw c.in-Ok-Key.field-0-is at c.in-Ok-Key.is) refl c.if-rows-eq0-2.true);
    }

pub overflow_sub-rows-in-Ok-Key : goal.overflow_sub-rows-in-Ok-Key
overflow_sub-rows-in-Ok-Key t c = omega (arith, c.if-rows-eq0-2.false)

pub loop-left-smaller-in-Ok-Key : goal.loop-left-smaller-in-Ok-Key
loop-left-smaller-in-Ok-Key t c =
    let g = rw (c.in-Ok-Key.is, c.in-Ok-Key.field-0-is) at c.one.ensures.moves in omega (arith, g.on, g.within)

pub loop-left-preserved-in-Ok-Key : goal.loop-left-preserved-in-Ok-Key
loop-left-preserved-in-Ok-Key t c =
    let inv = c.loop-left.invariant in
    let g = rw (c.in-Ok-Key.is, c.in-Ok-Key.field-0-is) at c.one.ensures.moves in (
      along_key inv.0 c.loop-left-test.true g,
      λ Q o a so l h f e.
          field_key Q _ _ c.loop-left.left l c.loop-left-test.true inv.0.most (inv.1 Q o a so l h f e) c.if-s-at.false _ _
          (λ b. c.one.ensures.judged o b so) c.if-rows-eq0-2.false _ (rw c.in-Ok-Key.field-0-is at c.in-Ok-Key.is),
    )

pub returns-then-rows-eq0-3 : goal.returns-then-rows-eq0-3
unfolding fail
returns-then-rows-eq0-3 t c =
    let inv = c.loop-left.invariant in record {
      went = rw c.fail-then-rows-eq0-3.ensures tt;
      resumes = λ Q o a so l h f e.
          rw c.fail-then-rows-eq0-3.ensures (field_full Q _ _ c.loop-left.left l c.loop-left-test.true inv.0.most (inv.1 Q o a so l h f e) c.if-s-at.false _ _
          (λ b. c.one.ensures.judged o b so) refl _ (rw c.in-Ok-NewSymbol.field-0-is at c.in-Ok-NewSymbol.is) refl c.if-rows-eq0-3.true);
    }

pub overflow_add-names : goal.overflow_add-names
overflow_add-names t c =
    let g = rw (c.in-Ok-NewSymbol.is, c.in-Ok-NewSymbol.field-0-is) at c.one.ensures.moves in omega (arith, g.fair.few)

pub overflow_sub-rows-in-Ok-NewSymbol : goal.overflow_sub-rows-in-Ok-NewSymbol
overflow_sub-rows-in-Ok-NewSymbol t c = omega (arith, c.if-rows-eq0-3.false)

pub loop-left-smaller-in-Ok-NewSymbol : goal.loop-left-smaller-in-Ok-NewSymbol
loop-left-smaller-in-Ok-NewSymbol t c =
    let g = rw (c.in-Ok-NewSymbol.is, c.in-Ok-NewSymbol.field-0-is) at c.one.ensures.moves in omega (arith, g.on, g.within)

pub loop-left-preserved-in-Ok-NewSymbol : goal.loop-left-preserved-in-Ok-NewSymbol
loop-left-preserved-in-Ok-NewSymbol t c =
    let inv = c.loop-left.invariant in
    let g = rw (c.in-Ok-NewSymbol.is, c.in-Ok-NewSymbol.field-0-is) at c.one.ensures.moves in (
      along_value inv.0 c.loop-left-test.true g,
      λ Q o a so l h f e.
          field_symbol Q _ _ c.loop-left.left l c.loop-left-test.true inv.0.most (inv.1 Q o a so l h f e) c.if-s-at.false _ _
          (λ b. c.one.ensures.judged o b so) c.if-rows-eq0-3.false _ (rw c.in-Ok-NewSymbol.field-0-is at c.in-Ok-NewSymbol.is),
    )

pub returns-then-rows-eq0-4 : goal.returns-then-rows-eq0-4
unfolding fail
returns-then-rows-eq0-4 t c =
    let inv = c.loop-left.invariant in record {
      went = rw c.fail-then-rows-eq0-4.ensures tt;
      resumes = λ Q o a so l h f e.
          rw c.fail-then-rows-eq0-4.ensures (field_full Q _ _ c.loop-left.left l c.loop-left-test.true inv.0.most (inv.1 Q o a so l h f e) c.if-s-at.false _ _
          (λ b. c.one.ensures.judged o b so) refl _ (rw c.in-Ok-NewKey.field-0-is at c.in-Ok-NewKey.is) refl c.if-rows-eq0-4.true);
    }

pub overflow_add-names-in-Ok-NewKey : goal.overflow_add-names-in-Ok-NewKey
overflow_add-names-in-Ok-NewKey t c =
    let g = rw (c.in-Ok-NewKey.is, c.in-Ok-NewKey.field-0-is) at c.one.ensures.moves in omega (arith, g.fair.few)

pub overflow_sub-rows-in-Ok-NewKey : goal.overflow_sub-rows-in-Ok-NewKey
overflow_sub-rows-in-Ok-NewKey t c = omega (arith, c.if-rows-eq0-4.false)

pub loop-left-smaller-in-Ok-NewKey : goal.loop-left-smaller-in-Ok-NewKey
loop-left-smaller-in-Ok-NewKey t c =
    let g = rw (c.in-Ok-NewKey.is, c.in-Ok-NewKey.field-0-is) at c.one.ensures.moves in omega (arith, g.on, g.within)

pub loop-left-preserved-in-Ok-NewKey : goal.loop-left-preserved-in-Ok-NewKey
loop-left-preserved-in-Ok-NewKey t c =
    let inv = c.loop-left.invariant in
    let g = rw (c.in-Ok-NewKey.is, c.in-Ok-NewKey.field-0-is) at c.one.ensures.moves in (
      along_key inv.0 c.loop-left-test.true g,
      λ Q o a so l h f e.
          field_new_key Q _ _ c.loop-left.left l c.loop-left-test.true inv.0.most (inv.1 Q o a so l h f e) c.if-s-at.false _ _
          (λ b. c.one.ensures.judged o b so) c.if-rows-eq0-4.false _ (rw c.in-Ok-NewKey.field-0-is at c.in-Ok-NewKey.is),
    )

pub returns-then-rows-eq0-5 : goal.returns-then-rows-eq0-5
unfolding fail
returns-then-rows-eq0-5 t c =
    let inv = c.loop-left.invariant in record {
      went = rw c.fail-then-rows-eq0-5.ensures tt;
      resumes = λ Q o a so l h f e.
          rw c.fail-then-rows-eq0-5.ensures (field_full Q _ _ c.loop-left.left l c.loop-left-test.true inv.0.most (inv.1 Q o a so l h f e) c.if-s-at.false _ _
          (λ b. c.one.ensures.judged o b so) refl _ (rw c.in-Ok-Container.field-0-is at c.in-Ok-Container.is) refl c.if-rows-eq0-5.true);
    }

pub overflow_sub-depth : goal.overflow_sub-depth
overflow_sub-depth t c =
    let g = rw (c.in-Ok-Container.is, c.in-Ok-Container.field-0-is) at c.one.ensures.moves in omega (arith, g.0)

pub overflow_sub-rows-in-Ok-Container : goal.overflow_sub-rows-in-Ok-Container
overflow_sub-rows-in-Ok-Container t c = omega (arith, c.if-rows-eq0-5.false)

pub fields-requires : goal.fields-requires
fields-requires t c =
    let pre' = c.requires in
    let inv = c.loop-left.invariant in
    let p = pre' in
    let g = rw (c.in-Ok-Container.is, c.in-Ok-Container.field-0-is) at c.one.ensures.moves in
    (omega (arith, g.2.on, g.2.within, inv.0.back, inv.0.most), (g.2.within, p.1, g.2.fair))

pub returns-in_err-inner-in-Ok-Container : goal.returns-in_err-inner-in-Ok-Container
returns-in_err-inner-in-Ok-Container t c =
    let failed = err_from_is_err_and c.from_residual.result c.from_residual.ensures.1 in
    let inv = c.loop-left.invariant in
    let g = rw (c.in-Ok-Container.is, c.in-Ok-Container.field-0-is) at c.one.ensures.moves in record {
      went = rw failed.1 tt;
      resumes = λ Q o a so l h f e.
          rw (failed.1, failed.2) (field_held_bad Q _ _ c.loop-left.left l c.loop-left-test.true inv.0.most (inv.1 Q o a so l h f e) c.if-s-at.false _ _
          (λ b. c.one.ensures.judged o b so) c.if-rows-eq0-5.false _ _ (rw c.in-Ok-Container.field-0-is at c.in-Ok-Container.is) g.0
          g.1 _ _ (λ Q b. c.fields.ensures.resumes Q o b so) _ c.in_err-inner-in-Ok-Container.was);
    }

pub returns-in-End : goal.returns-in-End
unfolding fail
returns-in-End t c =
    let inv = c.loop-left.invariant in
    let g = rw (c.in-Ok-Container.is, c.in-Ok-Container.field-0-is) at c.one.ensures.moves in
    let w = rw (c.in_ok-inner-in-Ok-Container.was, c.in-End.is) at c.fields.ensures.went in record {
      went = rw c.fail-in-End.ensures tt;
      resumes = λ Q o a so l h f e.
          rw c.fail-in-End.ensures (field_held_end Q _ _ c.loop-left.left l c.loop-left-test.true inv.0.most (inv.1 Q o a so l h f e) c.if-s-at.false _ _
          (λ b. c.one.ensures.judged o b so) c.if-rows-eq0-5.false _ _ (rw c.in-Ok-Container.field-0-is at c.in-Ok-Container.is) g.0 g.1 _ _ (λ Q b. c.fields.ensures.resumes Q o b so)
          _ _ refl (c.in_ok-inner-in-Ok-Container.was ∙ ap Ok c.in-End.is) w.2 w.1);
    }

pub loop-left-smaller : goal.loop-left-smaller
loop-left-smaller t c =
    let g = rw (c.in-Ok-Container.is, c.in-Ok-Container.field-0-is) at c.one.ensures.moves in
    let w = rw (c.in_ok-inner-in-Ok-Container.was, c.in-Good.is) at c.fields.ensures.went in
    omega (arith, g.2.on, g.2.within, w.1, w.2)

pub loop-left-preserved : goal.loop-left-preserved
loop-left-preserved t c =
    let inv = c.loop-left.invariant in
    let g = rw (c.in-Ok-Container.is, c.in-Ok-Container.field-0-is) at c.one.ensures.moves in
    let w = rw (c.in_ok-inner-in-Ok-Container.was, c.in-Good.is) at c.fields.ensures.went in (
      along_held inv.0 c.loop-left-test.true _ g.2 w.0 w.1 w.2,
      λ Q o a so l h f e.
          field_held_good Q _ _ c.loop-left.left l c.loop-left-test.true inv.0.most (inv.1 Q o a so l h f e) c.if-s-at.false _ _
          (λ b. c.one.ensures.judged o b so) c.if-rows-eq0-5.false _ _ (rw c.in-Ok-Container.field-0-is at c.in-Ok-Container.is) g.0
          g.1 _ _ (λ Q b. c.fields.ensures.resumes Q o b so) _ (c.in_ok-inner-in-Ok-Container.was ∙ ap Ok c.in-Good.is) w.3,
    )

pub returns : goal.returns
returns t c =
    let inv = c.loop-left.invariant in
    let z : c.loop-left.left ≡ 0 = omega arith in record {
      went = (inv.0.fair, omega (arith, inv.0.back), inv.0.within, inv.0.rest z);
      resumes = λ Q o a so l h f e.
          at_place (ap (λ (n : ℕ). Q n (eqb c.loop-left.keyed 1)) z ∙ ap (λ (k : ℕ). Q 0 (eqb k 1)) (inv.0.rest z)) (inv.1 Q o a so l h f e);
    }
