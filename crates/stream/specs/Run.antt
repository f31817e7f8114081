-- The run of a filter over an input: turn after turn, from the first on, until it has ended.
use Rattle.std.specs.Prelude.{◌≡◌, ℕ, suc, ◌-◌, ◌^◌, ◌<◌, ◌≤◌, true, false, ◌⊎◌, List, [], ◌++◌, length, take, drop, nat_lt}
use Rattle.format.specs.Choice.{pick}
use Rattle.format.specs.Answer.{Answer}
use Rattle.format.specs.Envelope.{max_envelope, opening}
use Rattle.wire.specs.Output.{Puts}
use Rattle.stream.specs.declared.state.Step.{Step}
use Rattle.stream.specs.declared.state.Stream.{Stream}
use Rattle.stream.specs.declared.state.Action.{Action}
use Rattle.stream.specs.declared.state.Action.TheVariants.{Read, Take, End}
use Rattle.stream.specs.Window.{unread, unused}
use Rattle.stream.specs.State.{Finishes, Flushes, Refills, action_of, advanced, begun, broken, numbered}

-- A filter, by what it makes of envelope k and of what opening that answers: the bytes to write, and the step, which counts them;
-- so many bytes take those for any envelope.
pub record Filter : Type 0 where
  pub output : ℕ → Answer (List ℕ) → List ℕ
  pub step : ℕ → Answer (List ℕ) → Step
  pub most : ℕ

-- Of envelope k, which the bytes begin with, into a buffer that held `old`: it answers `r` and leaves `new`.
pub record Makes (p : Filter) (k : ℕ) (bs old : List ℕ) (r : Step) (new : List ℕ) : Type 0 where
  pub step : r ≡ p.step k (opening bs)
  pub puts : Puts (p.output k (opening bs)) r.written old new

-- ---- a turn

-- The buffers are long enough: the input's for the longest envelope, so that a read has space as long as one is cut;
-- the output's for what is made of any.
pub record Buffers (p : Filter) (input output : List ℕ) : Type 0 where
  pub takes_envelope : max_envelope ≤ length input
  pub takes_output : p.most ≤ length output

-- The bytes that wait to be written.
abbrev pub waiting : Stream → List ℕ → List ℕ
waiting s output = take s.filled output

-- Of the envelope that the unused bytes `bs` begin with: `s` becomes `r`, and the output's buffer, which held `old`, holds `new`.
-- Where it may be too short, what waits is written first; else the envelope is taken, and what is made of it waits behind what waited.
pub record Takes (p : Filter) (s : Stream) (bs old : List ℕ) (r : Stream) (new : List ℕ) : Type 0 where
  pub flushed : length old - s.filled < p.most → Flushes s r × (new ≡ old)
  pub taken : p.most ≤ length old - s.filled → r ≡ advanced s (p.step (numbered s.count) (opening bs))
  pub waits : p.most ≤ length old - s.filled → waiting r new ≡ waiting s old ++ p.output (numbered s.count) (opening bs)

-- By what is to be done: of `s` over an input's buffer that held `input` and an output's that held `old`.
abbrev pub Does : Filter → Action → Stream → List ℕ → List ℕ → Stream → List ℕ → List ℕ → Type 0
Does p Read s input old r input' new = Refills s input r input' × (new ≡ old)
Does p Take s input old r input' new = Takes p s (unread s.window input) old r new × (input' ≡ input)
Does p End s input old r input' new = Finishes s r × (new ≡ old) × (input' ≡ input)

-- A turn does what is to be done.
abbrev pub Turns : Filter → Stream → List ℕ → List ℕ → Stream → List ℕ → List ℕ → Type 0
Turns p s input old r input' new = Does p (action_of s input) s input old r input' new

-- The bytes that a turn read,
abbrev pub came_in : Action → Stream → Stream → List ℕ → List ℕ
came_in Read s r input' = drop (unused s.window) (unread r.window input')
came_in Take s r input' = []
came_in End s r input' = []

-- and those that it handed to the system to be written.
abbrev pub sent_in : Filter → Action → Stream → List ℕ → List ℕ
sent_in p Read s old = waiting s old
sent_in p Take s old = pick (nat_lt (length old - s.filled) p.most) (waiting s old) []
sent_in p End s old = waiting s old

-- ---- the run

-- The state, the two buffers, and all that was read and handed on so far.
pub record Snapshot : Type 0 where
  pub stream : Stream
  pub input : List ℕ
  pub output : List ℕ
  pub came : List ℕ
  pub sent : List ℕ

-- One turn, from x to y: of a run that has not ended.
pub record Turn (p : Filter) (x y : Snapshot) : Type 0 where
  pub going : x.stream.done ≡ false
  pub turns : Turns p x.stream x.input x.output y.stream y.input y.output
  pub reads : y.came ≡ x.came ++ came_in (action_of x.stream x.input) x.stream y.stream y.input
  pub writes : y.sent ≡ x.sent ++ sent_in p (action_of x.stream x.input) x.stream x.output

-- So many turns, one after the other.
pub data Turned (p : Filter) : ℕ → Snapshot → Snapshot → Type 0 where
  no_turn : {x : Snapshot} → Turned p 0 x x
  one_more : {n : ℕ} {x y z : Snapshot} → Turned p n x y → Turn p y z → Turned p (suc n) x z

-- Before an input, after those that are done with: nothing was read of it, nothing waits.
abbrev pub beginning : Stream → List ℕ → List ℕ → Snapshot
beginning s input output = record { stream = begun s; input = input; output = output; came = []; sent = [] }

-- After so many turns the state is `s`, and `r` is answered: the run has ended; or it gives up, which is a failure.
-- No run takes so many turns, but a proof that it ends has to bound them.
abbrev pub Ends : ℕ → Stream → Stream → Type 0
Ends count s r = ((s.done ≡ true) × (r ≡ s)) ⊎ ((count ≡ 2 ^ 64 - 1) × (r ≡ broken s))

-- A run over an input, after which `s` has become `r`.
pub record Runs (p : Filter) (s r : Stream) : Type 0 where
  pub count : ℕ
  pub input : List ℕ
  pub output : List ℕ
  pub last : Snapshot
  pub sized : Buffers p input output
  pub turned : Turned p count (beginning s input output) last
  pub ends : Ends count last.stream r
