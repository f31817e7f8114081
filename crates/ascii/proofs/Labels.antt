-- A word and a number, with the word written and the number to come. Assumes nothing.
use mathlib.Core.Path.{◌≡◌}
use mathlib.Core.List.{List, [], ◌∷◌, ◌++◌}
use Prim.Native.Nat.{ℕ, ◌≤◌}
use lib.ListN.{length, drop}
use Rattle.ascii.specs.Text.{decimal, labelled}
use Rattle.ascii.proofs.Writing.{Stage, first, first_fits}

-- `copy` wrote the word
module _ (word : List ℕ) (n : ℕ) (out : List ℕ) (capacity : length (labelled word n) ≤ length out) where
  pub word_fits : length word ≤ length out
  unfolding labelled
  word_fits = first_fits word (decimal n ∷ []) out capacity

  pub word-put : {l : List ℕ} {at : ℕ} → (at ≡ length word) × (l ≡ word ++ drop (length word) out)
      → Stage (labelled word n) out l at (decimal n ∷ [])
  unfolding labelled
  word-put {l} {at} p = first word (decimal n ∷ []) out capacity l at p
