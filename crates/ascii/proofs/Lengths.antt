-- How long parts of a text are, and parts one after the other. Assumes nothing.
use mathlib.Core.Path.{◌≡◌, ap}
use mathlib.Core.List.{List, [], ◌∷◌, append-nil, flatten}
use Prim.Native.Nat.{ℕ, ◌+◌, ◌≤◌}
use native.Mathlib.Omega.{arith}
use lib.ListN.{length, length-append}
use Rattle.ascii.specs.Text.{decimal, ended, labelled, max_digits}
use Rattle.ascii.proofs.Decimals.{length-decimal}

pub length_flatten : (p : List ℕ) (ps : List (List ℕ)) → length (flatten (p ∷ ps)) ≡ length p + length (flatten ps)
unfolding flatten
length_flatten p ps = length-append p (flatten ps)

pub length_one : (p : List ℕ) → length (flatten (p ∷ [])) ≡ length p
unfolding flatten
length_one p = ap length (append-nil p)

pub length_four : (a b c d : List ℕ) → length (flatten (a ∷ b ∷ c ∷ d ∷ [])) ≡ length a + length b + length c + length d
length_four a b c d = omega (arith, length_flatten a (b ∷ c ∷ d ∷ []), length_flatten b (c ∷ d ∷ []), length_flatten c (d ∷ []), length_one d)

pub length-ended : (n end : ℕ) → length (ended n end) ≤ max_digits + 1
unfolding ended
length-ended n end = omega (arith, length_flatten (decimal n) ((end ∷ []) ∷ []), length_one (end ∷ []), length-decimal n)

pub length-labelled : (word : List ℕ) (n : ℕ) → length (labelled word n) ≤ length word + max_digits
unfolding labelled
length-labelled word n = omega (arith, length_flatten word (decimal n ∷ []), length_one (decimal n), length-decimal n)
