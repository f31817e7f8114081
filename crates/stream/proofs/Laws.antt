-- A whole run: input in pieces is taken as it would be in one. Assumes nothing.
use Rattle.std.proofs.Common.{◌≡◌, ℕ, true, false, List, [], ◌++◌, take, sym, refl, ap, ◌∙◌, ⊎_elim, append_assoc, append-nil}
use Rattle.format.proofs.Tests.{clash}
use Rattle.stream.specs.declared.state.Stream.{Stream}
use Rattle.stream.specs.Window.{unread}
use Rattle.stream.specs.Run.{Filter, Runs, Snapshot, waiting}
use Rattle.stream.specs.Whole.{Tally, processed, tally}
use Rattle.stream.specs.Laws.{Takes, WholeRun}
use Rattle.stream.proofs.Processing.{extends, nothing}
use Rattle.stream.proofs.Turning.{holds_first, turned_holds, turned-over}

module _ (p : Filter) (inside : Takes p) (s r : Stream) (run : Runs p s r) where
  abbrev last : Snapshot
  last = run.last

  abbrev made : Tally
  made = processed p (tally s []) last.came

  -- what was made so far, and what is made of the unused bytes
  holds : made ≡ processed p (tally last.stream (last.sent ++ waiting last.stream last.output))
      (unread last.stream.window last.input ++ [])
  holds =
      let first = holds_first p s run.input run.output in
      ap (processed p (tally s [])) (sym (append-nil last.came)) ∙ turned_holds p inside (tally s []) run.turned first [] (λ _. refl)

  -- it has ended, and not failed
  ended : last.stream.done ≡ true → last.stream.failed ≡ false → tally last.stream last.sent ≡ made
  ended done fine =
      let over = turned-over p run.turned (λ d. clash d refl) done fine in
      let sent = ap (λ (n : ℕ). last.sent ++ take n last.output) over.1 ∙ append-nil last.sent in
      sym (ap (tally last.stream) sent) ∙ sym (rw over.0 at holds ∙ nothing p _)

  whole : r.failed ≡ false → tally r last.sent ≡ made
  whole fine =
      ⊎_elim
      (λ (done, e). ap (λ (x : Stream). tally x last.sent) e ∙ ended done (sym (ap (λ (x : Stream). x.failed) e) ∙ fine))
      (λ (_, e). clash (ap (λ (x : Stream). x.failed) e) fine)
      run.ends

  begins : (rest : List ℕ) × (made.written ≡ last.sent ++ rest)
  begins =
      let waits = waiting last.stream last.output in
      let (rest, e) = extends p (tally last.stream (last.sent ++ waits)) (unread last.stream.window last.input ++ []) in
      (waits ++ rest, ap (λ (x : Tally). x.written) holds ∙ e ∙ append_assoc last.sent waits rest)

  pub whole_run : WholeRun p s r run
  whole_run = record { whole = whole; begins = begins }
