-- The buffers of a run are long enough. Assumes nothing.
use Rattle.std.proofs.Common.{◌≤◌, ℕ, List, length}
use Rattle.format.specs.Envelope.{max_envelope}
use Rattle.stream.specs.Run.{Buffers, Filter}

pub long_enough : (p : Filter) (input output : List ℕ) → max_envelope ≤ length input → p.most ≤ length output
    → Buffers p input output
long_enough p input output i o = record { takes_envelope = i; takes_output = o }
