-- `number` reads a payload, most significant byte first. Assumes nothing.
use mathlib.Core.Path.{◌≡◌}
use Prim.Native.Nat.{◌^◌, ◌<◌}
use lib.ListN.{take}
use Rattle.format.specs.Header.{big_endian}
use Rattle.wire.proofs.header.number.Given as goal

abbrev pub invariant-loop-b : goal.invariant-loop-b
invariant-loop-b l = (l.p ≡ big_endian 0 (take l.b-index l.bytes)) × (l.p < 256 ^ l.b-index)
