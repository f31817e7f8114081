-- The entries that packed numbers stand for: how many, one by its index, and one more. Assumes nothing.
use Rattle.std.specs.Prelude.{None, Some, slice_get}
use mathlib.Core.Path.{◌≡◌, refl, ap, ◌∙◌}
use mathlib.Core.List.{List, [], ◌∷◌, ◌++◌, map}
use Prim.Native.Nat.{ℕ, zero, suc, ◌+◌, ◌≤◌, ◌<◌}
use native.Mathlib.Numerals.{add-one}
use native.Mathlib.Omega.{arith}
use lib.ListN.{length, take, drop, get_or, set, length-map}
use lib.Seq.{length-take-le, take-suc-set, get_or-take}
use Rattle.format.proofs.Lists.{map-append}
use Rattle.format.proofs.Names.{item_path}
use Rattle.symbols.specs.Entry.{Packed, name_in, part_in, side_of}
use Rattle.symbols.specs.Entries.{found_in, entries_of, part_of}
use Rattle.symbols.proofs.EntryLaws.{side_both}

module _ (s es : List ℕ) (names : ℕ) (size : length es ≡ 256) (few : names ≤ 256) where
  long : length (take names es) ≡ names
  long = length-take-le names es (omega arith)

  pub length-entries : length (entries_of s es names) ≡ names
  unfolding entries_of
  length-entries = length-map (take names es) (found_in s) ∙ long

  pub entry-none : (i : ℕ) → names ≤ i → slice_get (entries_of s es names) i ≡ None
  unfolding entries_of
  entry-none i h = go (take names es) i (rw long h)
    where
      go : (ds : List ℕ) (i : ℕ) → length ds ≤ i → slice_get (map (found_in s) ds) i ≡ None
      go [] i l = refl
      go (d ∷ ds) zero l = absurd (omega arith)
      go (d ∷ ds) (suc i) l = go ds i (omega arith)

  pub entry-is : (i : ℕ) → i < names → slice_get (entries_of s es names) i ≡ Some (found_in s (get_or es i 0))
  unfolding entries_of
  entry-is i h = go (take names es) i (rw long h) ∙ ap (λ (e : ℕ). Some (found_in s e)) (get_or-take names es i 0 h)
    where
      go : (ds : List ℕ) (i : ℕ) → i < length ds → slice_get (map (found_in s) ds) i ≡ Some (found_in s (get_or ds i 0))
      go [] i l = absurd (omega arith)
      go (d ∷ ds) zero l = refl
      go (d ∷ ds) (suc i) l = go ds i (omega arith)

  pub entries-more : (e : ℕ) → names < 256 → entries_of s (set es names e) (names + 1) ≡ entries_of s es names ++ (found_in s e ∷ [])
  unfolding entries_of
  entries-more e l =
      let w : names < length es = omega arith in
      ap (λ (n : ℕ). map (found_in s) (take n (set es names e))) (add-one names)
      ∙ ap (map (found_in s)) (take-suc-set es names e w) ∙ map-append (found_in s) (take names es) (e ∷ [])

-- What a packed entry stands for.
pub found_packed : (s : List ℕ) {e start side len kind : ℕ} → Packed e start side len kind → found_in s e ≡ part_of s kind start len
unfolding found_in name_in part_in
found_packed s {e} {start} {side} {len} {kind} p =
    let c : take len (drop start (side_of side s s)) ≡ take len (drop start s) = rw side_both in
    let q : name_in s s e ≡ (part_of s kind start len).item = item_path p.kind_is p.length_is
    (rw (p.length_is, p.start_is, p.side_is) c) in
    λ j. record { item = q j; start = p.start_is j }
