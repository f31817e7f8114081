-- An envelope taken, and turns taken one after the other: what a program's own functions are proved by. Assumes nothing.
use Rattle.std.proofs.Common.{◌≡◌, ℕ, suc, ◌+◌, ◌-◌, ◌<◌, ◌≤◌, false, List, [], ◌++◌, length, take, drop, sym, refl, ap, ◌∙◌, subst, append_assoc, arith, length-append, length-take-le, take_at}
use borrow.Rule.Slice.PartMut.{put_mid}
use Rattle.format.specs.Answer.{Answer}
use Rattle.format.specs.Envelope.{max_envelope, opening}
use Rattle.format.proofs.Tests.{cases, equal, order}
use Rattle.envelope.specs.Answers.{missing_from}
use Rattle.envelope.proofs.Laws.{in_pieces}
use Rattle.stream.specs.declared.input.Window.{Window}
use Rattle.stream.specs.declared.state.Stream.{Stream}
use Rattle.stream.specs.declared.state.Step.{Step}
use Rattle.stream.specs.declared.state.Action.TheVariants.{Read, Take, End}
use Rattle.stream.specs.Window.{Within, unread, unused}
use Rattle.stream.specs.State.{Flushes, Ready, action_of, advanced, begun, moved_on, next_of, numbered}
use Rattle.stream.specs.Run.{Buffers, Ends, Filter, Makes, Runs, Snapshot, Takes, Turned, Turns, came_in, no_turn, one_more, sent_in, waiting}
use Rattle.stream.specs.Laws as laws
use Rattle.stream.proofs.WindowLaws.{ends, part_length, takes, takes_last}
use Rattle.stream.proofs.StateLaws.{goes_on, stops}

-- ---- what is ready stays so

moved-within : (w : Window) (used n : ℕ) → w.start + used ≤ w.end → w.end ≤ n → Within (moved_on w used) n
moved-within w used n u l =
    order 1 used
    (λ m. subst (λ (v : Window). Within v n) (sym (goes_on w (λ z. absurd (omega (arith, m, z))))) (u, l))
    (λ m. subst (λ (v : Window). Within v n) (sym (stops w (omega (arith, m)))) (omega arith, l))

-- A read has space: bytes are missing only from an envelope that is shorter than the longest.
pub read-space : (w : Window) (input : List ℕ) → Within w (length input) → max_envelope ≤ length input
    → Read ≡ next_of w.ended (unread w input) → unused w < length input
read-space w input h l a =
    let bs = unread w input in
    let no_end : Read ≡ End → unused w < length input = λ e. let z : ◌≡◌ {A = ℕ} 0 1 = cc in absurd (omega (arith, z)) in
    let no-take : Read ≡ Take → unused w < length input = λ e. let z : ◌≡◌ {A = ℕ} 0 1 = cc in absurd (omega (arith, z)) in
    cases w.ended
    (λ e. equal (length bs) 0 (λ z. no_end (a ∙ sym (ends bs e z))) (λ z. no-take (a ∙ sym (takes_last bs e z))))
    (λ e. equal (missing_from bs) 0
    (λ z. no-take (a ∙ sym (takes bs e z)))
    (λ z. omega (arith, (in_pieces bs).short z, part_length w.start w.end input h.1, l)))

-- ---- an envelope

-- The filter was handed the unused bytes as envelope k, and the output's buffer behind what waits, with space for what is made of any.
pub record Made (p : Filter) (s : Stream) (step : Step) (k : ℕ) (input output ys : List ℕ) : Type 0 where
  pub ready : Ready s (length input) (length output)
  pub inside : laws.Takes p
  pub short : (k : ℕ) (a : Answer (List ℕ)) → length (p.output k a) ≤ p.most
  pub space : p.most ≤ length output - s.filled
  pub makes : Makes p k (unread s.window input) (take (length output - s.filled) (drop s.filled output)) step ys

module _ {p : Filter} {s : Stream} {step : Step} {k : ℕ} {input output ys : List ℕ} (m : Made p s step k input output ys) where
  abbrev bs : List ℕ
  bs = unread s.window input

  abbrev out : List ℕ
  out = p.output k (opening bs)

  -- the output's buffer afterwards
  abbrev new : List ℕ
  new = put_mid s.filled (length output - s.filled) output ys

  pub used_within : s.window.start + step.used ≤ s.window.end
  used_within =
      let h = m.ready.0 in
      let used = ap (λ (x : Step). x.used) m.makes.step in
      omega (arith, h.0, used, m.inside k bs, part_length s.window.start s.window.end input h.1)

  pub written-within : s.filled + step.written ≤ length output
  written-within = omega (arith, m.ready.1, m.makes.puts.0, m.short k (opening bs), m.space)

  -- what waits is what waited, and what was made of the envelope
  out_waits : take (s.filled + step.written) new ≡ take s.filled output ++ out
  out_waits =
      let n = s.filled in
      let front = take n output in
      let behind = drop (length out) (take (length output - n) (drop n output)) in
      let post = drop (length output - n) (drop n output) in
      let l : length (front ++ out) ≡ n + step.written =
      length-append front out ∙ omega (arith, length-take-le n output m.ready.1, m.makes.puts.0) in
      rw m.makes.puts.1
      (ap (λ (x : List ℕ). take (n + step.written) (front ++ x)) (append_assoc out behind post)
      ∙ ap (take (n + step.written)) (sym (append_assoc front out (behind ++ post)))
      ∙ take_at (front ++ out) (behind ++ post) (n + step.written) l)

  module _ (r : Stream) (e : r ≡ advanced s step) where
    pub taken_ready : (capacity : ℕ) → capacity ≡ length output → Ready r (length input) capacity
    taken_ready capacity l =
        subst (λ (x : Stream). Ready x (length input) capacity) (sym e)
        (moved-within s.window step.used (length input) used_within m.ready.0.1, omega (arith, written-within, l))

    pub taken : k ≡ numbered s.count → Takes p s bs output r new
    taken q =
        record {
          flushed = λ l. absurd (omega (arith, l, m.space));
          taken = λ _. e ∙ ap (advanced s) (m.makes.step ∙ ap (λ (n : ℕ). p.step n (opening bs)) q);
          waits = λ _. ap (λ (x : Stream). waiting x new) e ∙ out_waits ∙ ap (λ (n : ℕ). waiting s output ++ p.output n (opening bs)) q;
        }

pub flushed : (p : Filter) (s r : Stream) (bs output : List ℕ) → Flushes s r → length output - s.filled < p.most
    → Takes p s bs output r output
flushed p s r bs output f l =
    record { flushed = λ _. (f, refl); taken = λ m. absurd (omega (arith, l, m)); waits = λ m. absurd (omega (arith, l, m)) }

-- ---- turns

-- Nothing was read and nothing handed on yet.
abbrev opened : Stream → List ℕ → List ℕ → Snapshot
opened s input output = record { stream = s; input = input; output = output; came = []; sent = [] }

-- After so many turns of a run that began with `s₀` and these buffers: its state, and its buffers now.
pub record Going (p : Filter) (s₀ : Stream) (input₀ output₀ : List ℕ) (s : Stream) (input output : List ℕ) (turns : ℕ) : Type 0 where
  pub came : List ℕ
  pub sent : List ℕ
  pub turned : Turned p turns (opened s₀ input₀ output₀)
      (record { stream = s; input = input; output = output; came = came; sent = sent })

pub not_yet : (p : Filter) (s : Stream) (input output : List ℕ) → Going p s input output s input output 0
not_yet p s input output = record { came = []; sent = []; turned = no_turn }

module _ {p : Filter} {s₀ s : Stream} {input₀ output₀ input output : List ℕ} {turns : ℕ}
    (g : Going p s₀ input₀ output₀ s input output turns) where
  pub goes_on_with : (r : Stream) (input' output' : List ℕ) → s.done ≡ false → Turns p s input output r input' output'
      → Going p s₀ input₀ output₀ r input' output' (turns + 1)
  goes_on_with r input' output' going turned =
      let action = action_of s input in
      let came = g.came ++ came_in action s r input' in
      let sent = g.sent ++ sent_in p action s output in
      let e : suc turns ≡ turns + 1 = omega arith in
      let y : Snapshot = record { stream = r; input = input'; output = output'; came = came; sent = sent } in
      let turn : Turned p (suc turns) (opened s₀ input₀ output₀) y =
      one_more g.turned (record { going = going; turns = turned; reads = refl; writes = refl }) in
      record { came = came; sent = sent; turned = subst (λ (k : ℕ). Turned p k (opened s₀ input₀ output₀) y) e turn }

  pub ran : (before r : Stream) → s₀ ≡ begun before → Buffers p input₀ output₀ → Ends turns s r → Runs p before r
  ran before r e sized ends =
      let last : Snapshot = record { stream = s; input = input; output = output; came = g.came; sent = g.sent } in
      record {
        count = turns;
        input = input₀;
        output = output₀;
        last = last;
        sized = sized;
        turned = subst (λ (x : Stream). Turned p turns (opened x input₀ output₀) last) e g.turned;
        ends = ends;
      }
