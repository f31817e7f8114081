-- A program's run over all its inputs, and its exit status.
use Rattle.std.specs.Prelude.{◌≡◌, ◌⊎◌, ℕ, suc, ◌-◌, false, ◌||◌, ltb, is_some}
use Rattle.format.specs.Choice.{pick}
use Rattle.stream.specs.declared.state.Stream.{Stream}
use Rattle.stream.specs.State.{broken, first}
use Rattle.stream.specs.Run.{Filter, Runs}
use Rattle.programs.specs.declared.arguments.Request.{Request}
use Rattle.programs.specs.declared.arguments.Request.TheVariants.{Run, Help, Version, Unknown}
use Rattle.programs.specs.Arguments.{Asks}

-- ---- inputs, one after the other

-- One input: a run over it, or a file that cannot be opened.
pub data Serves (p : Filter) (s : Stream) : Stream → Type 0 where
  ran : {r : Stream} → Runs p s r → Serves p s r
  unopened : Serves p s (broken s)

-- So many inputs, the first of them from the first envelope on; none after an envelope that stopped the run, or a failure.
pub data Served (p : Filter) : ℕ → Stream → Type 0 where
  no_input : Served p 0 first
  one_more : {n : ℕ} {s r : Stream} → Served p n s → s.stopped ≡ false → s.failed ≡ false → Serves p s r → Served p (suc n) r

-- So many at most: fewer only where an envelope stopped the run, or something failed.
pub record Serving (p : Filter) (inputs : ℕ) (r : Stream) : Type 0 where
  pub count : ℕ
  pub served : Served p count r
  pub all : r.stopped ≡ false → r.failed ≡ false → count ≡ inputs

-- One input for each argument but the program's own name; standard input where there is none.
unfoldable pub inputs_of : ℕ → ℕ
inputs_of arguments = pick (ltb arguments 2) 1 (arguments - 1)

-- ---- the exit status

-- 2 where something failed, 1 where an envelope was refused, whether that stopped the run or not, else 0.
unfoldable pub status_of : Stream → ℕ
status_of s = pick s.failed 2 (pick (s.stopped || is_some s.refusal) 1 0)

-- A text was printed, or that failed.
abbrev pub Prints : ℕ → Type 0
Prints r = (r ≡ 0) ⊎ (r ≡ 2)

-- By what was asked for, with so many arguments.
abbrev pub Performs : Filter → Request → ℕ → ℕ → Type 0
Performs p Run arguments r = (s : Stream) × Serving p (inputs_of arguments) s × (r ≡ status_of s)
Performs p Help arguments r = Prints r
Performs p Version arguments r = Prints r
Performs p (Unknown i) arguments r = r ≡ 2

-- Whatever the arguments are, of which no contract can say more than `Asks`.
abbrev pub Answers : Filter → ℕ → Type 0
Answers p r = (request : Request) × (arguments : ℕ) × Asks arguments request × Performs p request arguments r
