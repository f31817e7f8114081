-- The length of an item in full. Assumes nothing.
use mathlib.Core.Path.{◌≡◌, ap, sym, ◌∙◌}
use mathlib.Core.List.{◌∷◌}
use Prim.Native.Nat.{ℕ, ◌+◌, ◌-◌, ◌^◌, ◌≤◌, ◌<◌}
use native.Mathlib.Omega.{arith}
use lib.ListN.{length, length-append}
use Rattle.format.specs.Header.{header, digits, following}
use Rattle.format.specs.Item.{Item}
use Rattle.format.specs.Canonical.{full}
use Rattle.format.proofs.Tests.{ltb_yes, pick_yes}
use Rattle.format.proofs.Numbers.{length_digits, width_holds}
use Rattle.format.proofs.Headers.{length-header}
use Rattle.format.proofs.Encoding.{full-other}

pub header-most : (c p : ℕ) → p < 2 ^ 64 → length (header c p) ≤ 9
header-most c p l = omega (arith, length-header c p l, (width_holds p l).most)

module _ (x : Item) where
  -- kinds in the lead byte
  pub full-fixed : (m : ℕ) → x.kind < 5 → following 0 x.kind ≡ m → full x ≡ x.kind ∷ digits m x.number
  unfolding full
  full-fixed m l e = pick_yes _ _ (ltb_yes l) ∙ rw e

  pub length-fixed : (m : ℕ) → x.kind < 5 → following 0 x.kind ≡ m → 1 + m ≡ length (full x)
  length-fixed m l e = sym (ap length (full-fixed m l e) ∙ omega (arith, length_digits m x.number))

  -- kinds with a header
  pub length-sized : 5 ≤ x.kind → length (header (x.kind - 5) x.number) + length x.content ≡ length (full x)
  length-sized l = sym (ap length (full-other x l) ∙ length-append (header (x.kind - 5) x.number) x.content)
