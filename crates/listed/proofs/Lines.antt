-- Lines, with their first part written and the others to come. Assumes nothing.
use mathlib.Core.List.{List, [], ◌∷◌}
use Prim.Native.Nat.{ℕ, ◌≤◌}
use lib.ListN.{length}
use Rattle.format.specs.declared.row.Row.{Row}
use Rattle.wire.specs.Output.{Puts}
use Rattle.ascii.specs.Text.{ended, labelled, newline, space}
use Rattle.ascii.proofs.Writing.{Stage, first, first_fits}
use Rattle.listed.specs.Text.{bundle_word, bundle_line, envelope_word, envelope_text, refused_word, row_line}

module _ (i : ℕ) (r : Row) (out : List ℕ) (capacity : length (row_line i r) ≤ length out) where
  abbrev columns : List (List ℕ)
  columns = ended r.kind space ∷ ended r.number space ∷ ended r.start newline ∷ []

  pub index-fits : length (ended i space) ≤ length out
  unfolding row_line
  index-fits = first_fits (ended i space) columns out capacity

  pub index-put : {l : List ℕ} {n : ℕ} → Puts (ended i space) n out l → Stage (row_line i r) out l n columns
  unfolding row_line
  index-put {l} {n} p = first (ended i space) columns out capacity l n p

module _ (k : ℕ) (word : List ℕ) (n : ℕ) (other : List ℕ) (m : ℕ) (out : List ℕ)
    (capacity : length (bundle_line k word n other m) ≤ length out) where
  abbrev counts : List (List ℕ)
  counts = labelled word n ∷ labelled other m ∷ (newline ∷ []) ∷ []

  pub bundle-fits : length (labelled bundle_word k) ≤ length out
  unfolding bundle_line
  bundle-fits = first_fits (labelled bundle_word k) counts out capacity

  pub bundle-put : {l : List ℕ} {at : ℕ} → Puts (labelled bundle_word k) at out l → Stage (bundle_line k word n other m) out l at counts
  unfolding bundle_line
  bundle-put {l} {at} p = first (labelled bundle_word k) counts out capacity l at p

module _ (k x : ℕ) (out : List ℕ) (capacity : length (envelope_text k x) ≤ length out) where
  abbrev reason : List (List ℕ)
  reason = labelled refused_word x ∷ (newline ∷ []) ∷ []

  pub envelope-fits : length (labelled envelope_word k) ≤ length out
  unfolding envelope_text
  envelope-fits = first_fits (labelled envelope_word k) reason out capacity

  pub envelope-put : {l : List ℕ} {at : ℕ} → Puts (labelled envelope_word k) at out l → Stage (envelope_text k x) out l at reason
  unfolding envelope_text
  envelope-put {l} {at} p = first (labelled envelope_word k) reason out capacity l at p
