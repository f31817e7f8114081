-- Integers and containers by the code of their header. Assumes nothing.
use mathlib.Core.Path.{◌≡◌, refl}
use mathlib.Core.Bool.{true, false, ◌&&◌}
use Prim.Native.Nat.{ℕ, zero, suc, ◌+◌, ◌≤◌, ◌<◌}
use native.Mathlib.Omega.{arith}
use lib.Dec.{leb}
use Rattle.format.specs.declared.header.Header.{Header}
use Rattle.format.specs.Choice.{pick}
use Rattle.format.specs.Kind as Kind
use Rattle.format.specs.Code as Code
use Rattle.format.specs.Reading.{fixed, form_of}
use Rattle.format.proofs.Tests.{equal, clash, and-true, and_yes, leb-true, leb_yes}
use Rattle.wire.specs.Numbers.{number_of}

-- A code in a range.
pub code-within : (a b c : ℕ) → leb a c && leb c b ≡ true → (a ≤ c) × (c ≤ b)
code-within a b c e = let (l, u) = and-true (leb a c) (leb c b) e in (leb-true a c l, leb-true c b u)

-- What is no integer and below a container is binary.
pub is_zero : (n : ℕ) → leb 1 n && leb n 2 ≡ false → n < 3 → n ≡ 0
is_zero zero a l = refl
is_zero (suc n) a l = clash (and_yes (leb_yes {a = 1} {b = suc n} (omega arith)) (leb_yes {a = suc n} {b = 2} (omega arith))) a

pub form-number : (h : Header) → Code.positive ≤ h.code → h.code ≤ Code.container
    → form_of h ≡ fixed (h.code + Kind.bytes) (number_of h.code h.payload)
unfolding form_of number_of pick
form-number h l u =
    equal h.code Code.positive (λ e. rw e)
    (λ n. equal h.code Code.negative (λ e. rw e)
    (λ m. let e : h.code ≡ Code.container = omega arith in rw e))
