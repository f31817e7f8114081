-- Judging row by row: what each turn of `judge` asks, and what it leaves. Assumes nothing.
use Rattle.std.specs.Prelude.{Ok, Err}
use Rattle.std.proofs.lemmas.List.{take_all}
use mathlib.Core.Path.{◌≡◌, refl, ap, sym, subst, ◌∙◌}
use mathlib.Core.List.{List, []}
use Prim.Native.Nat.{ℕ, suc, ◌+◌, ◌≤◌, ◌<◌, zero-le}
use native.Mathlib.Numerals.{add-one}
use native.Mathlib.Omega.{arith}
use lib.ListN.{length, take, drop, get_or, replicate, length-replicate}
use lib.Seq.{length-take-le, split_at, take-suc}
use Rattle.format.specs.declared.row.Row.{Row}
use Rattle.format.specs.declared.failure.Failure.{Failure}
use Rattle.format.specs.Answer.{Answer}
use Rattle.format.specs.Names.{names_from}
use Rattle.format.specs.Place.{top}
use Rattle.format.specs.Writing.{begin, judge}
use Rattle.format.specs.Limits.{max_bytes, max_depth, max_rows}
use Rattle.format.specs.Rows.{blank}
use Rattle.rows.specs.Plan.{plan_size}
use Rattle.symbols.specs.declared.names.Names.{Names}
use Rattle.symbols.specs.Names.{Empty}
use Rattle.encoder.proofs.MeasureLaws.{measured-none}
use Rattle.rows.specs.declared.state.State.{State}
use Rattle.rows.specs.Stack.{bottom, opened_of}
use Rattle.rows.specs.Judging.{After, Ready, Next, refused, taken}
use Rattle.writer.specs.Verdict.{begun, Passed}

-- before the first row
pub after_none : {text rest : List ℕ} {names : Names} (plan : List ℕ) → Empty text rest names → length plan ≡ plan_size
    → After text names (replicate max_depth 0) plan [] begun
unfolding begun begin top bottom opened_of names_from
after_none plan e long =
    record {
      over = e.first;
      progress = begin;
      run = λ rest. refl;
      fine = tt;
      items = refl;
      names = refl;
      row = refl;
      rows = refl;
      small = zero-le;
      stands = record { size = length-replicate {A = ℕ} max_depth 0; deep = zero-le; high = omega arith; opened = refl; key = refl };
      measured = measured-none plan e long (omega arith);
    }

module _ {text : List ℕ} {names : Names} {st plan : List ℕ} (rs : List Row) (i : ℕ) {s : State}
    (a : After text names st plan (take i rs) s) where
  -- what `step` asks where a row is left
  pub ready : i < length rs → length rs ≤ max_rows → length text ≤ max_bytes → Ready names.first.now st s
      × (length plan ≡ plan_size)
  ready l few short =
      let row : s.row ≡ i = sym a.rows ∙ length-take-le i rs (omega arith) in (
        rw a.over
            (record {
              short = short;
              row = omega arith;
              small = a.small;
              stack = a.stands.size;
              deep = a.stands.deep;
              top = omega (arith, a.stands.high);
            }),
        a.measured.plan_size,
      )

  -- no row is left
  pub all_passed : length rs ≤ i → Passed text plan rs s
  all_passed l = record { names = names; st = st; after = rw (take_all i rs l) at a }

-- What `step` says is of the text.
pub stepped : {text : List ℕ} {names new : Names} {st st' plan plan' : List ℕ} {xs : List Row} {r : Row} {s u : State} {t : Answer Unit}
    → ((ys : List Row) → After names.first.now names st plan ys s → Next names.first.now new st' plan' ys r s u t)
    → After text names st plan xs s → Next text new st' plan' xs r s u t
stepped {names} {new} {st} {st'} {plan} {plan'} {xs} {r} {s} {u} {t} f a =
    subst (λ (z : List ℕ). Next z new st' plan' xs r s u t) a.over
    (f xs (subst (λ (z : List ℕ). After z names st plan xs s) (sym a.over) a))

-- A row more is taken,
pub taken_more : {text : List ℕ} {names : Names} {st plan : List ℕ} (rs : List Row) (i : ℕ) {s t : State} → i < length rs
    → Next text names st plan (take i rs) (get_or rs i blank) s t (Ok tt) → After text names st plan (take (i + 1) rs) t
taken_more rs i l (taken a row) = rw (add-one, take-suc rs i blank l) a

-- or refused, and with it all rows.
pub refused_more : {text : List ℕ} {names : Names} {st plan : List ℕ} (rs : List Row) (i : ℕ) {s t : State} {f : Failure} → i < length rs
    → Next text names st plan (take i rs) (get_or rs i blank) s t (Err f) → judge text begin rs ≡ Err f
refused_more {text = text} rs i l (refused r) = ap (judge text begin) (split_at rs i blank l) ∙ r (drop (suc i) rs)
