-- What the exit status tells of a run over all inputs. Assumes nothing.
use Rattle.std.specs.Prelude.{Option, None, Some}
use mathlib.Core.Path.{◌≡◌, refl, sym, subst, ◌∙◌}
use mathlib.Core.Bool.{false}
use Prim.Native.Nat.{ℕ}
use native.Mathlib.Omega.{arith}
use Rattle.format.proofs.Tests.{cases, clash}
use Rattle.stream.specs.declared.state.Refused.{Refused}
use Rattle.stream.specs.declared.state.Stream.{Stream}
use Rattle.stream.specs.Run.{Filter}
use Rattle.stream.specs.Laws.{Takes}
use Rattle.stream.proofs.Laws.{whole_run}
use Rattle.runner.specs.Program.{listing_filter, tidy_filter}
use Rattle.runner.proofs.Filters.{listing_inside, tidy_inside}
use Rattle.programs.specs.Exit as exit
use Rattle.programs.specs.Exit.{Served, Serving, ran, status_of, unopened}
use Rattle.programs.specs.Laws.{Processed, Told, no_input, one_more}
use Rattle.programs.proofs.Requests.{status_failed, status_refused, status_stopped}

-- Nothing failed where the status is 0, nothing stopped the run, and nothing was refused: each would be told by another number.
module _ (s : Stream) (good : status_of s ≡ 0) where
  told : {n : ℕ} → status_of s ≡ n → n ≡ 0
  told e = sym e ∙ good

  nothing-failed : s.failed ≡ false
  nothing-failed = cases s.failed (λ e. absurd (omega (arith, told (status_failed s e)))) (λ e. e)

  nothing-stopped : s.stopped ≡ false
  nothing-stopped = cases s.stopped (λ e. absurd (omega (arith, told (status_stopped s nothing-failed e)))) (λ e. e)

  nothing-refused : s.refusal ≡ None
  nothing-refused = go s.refusal refl
    where
      go : (r : Option Refused) → s.refusal ≡ r → r ≡ None
      go None e = refl
      go (Some r) e = absurd (omega (arith, told (status_refused s nothing-failed nothing-stopped e)))

module _ (p : Filter) (inside : Takes p) where
  all-processed : {n : ℕ} {s : Stream} → Served p n s → s.failed ≡ false → Processed p n s
  all-processed exit.no_input fine = no_input
  all-processed (exit.one_more {s = s} {r} before _ Fine-before (ran run)) fine =
      one_more (all-processed before Fine-before) run ((whole_run p inside s r run).whole fine)
  all-processed (exit.one_more before _ _ unopened) fine = clash refl fine

  pub told_by_status : (inputs : ℕ) (s : Stream) (serving : Serving p inputs s) → Told p inputs s serving
  told_by_status inputs s serving =
      record {
        whole = all-processed serving.served;
        good = λ e.
            let count = serving.all (nothing-stopped s e) (nothing-failed s e) in
            (subst (λ (n : ℕ). Processed p n s) count (all-processed serving.served (nothing-failed s e)), nothing-refused s e);
      }

-- ---- the two programs

pub told_of_listing : (inputs : ℕ) (s : Stream) (serving : Serving listing_filter inputs s) → Told listing_filter inputs s serving
told_of_listing = told_by_status listing_filter listing_inside

pub told_of_tidy : (inputs : ℕ) (s : Stream) (serving : Serving tidy_filter inputs s) → Told tidy_filter inputs s serving
told_of_tidy = told_by_status tidy_filter tidy_inside
