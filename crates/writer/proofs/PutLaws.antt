-- Rows written one after the other as they were planned. Assumes nothing.
use Rattle.std.specs.Prelude.{Ok}
use Rattle.std.proofs.lemmas.List.{take_all}
use mathlib.Core.Path.{◌≡◌, refl, ap, ◌∙◌}
use mathlib.Core.Bool.{false}
use mathlib.Core.List.{List, [], ◌∷◌, ◌++◌}
use Prim.Native.Nat.{ℕ, suc, ◌+◌, ◌≤◌, ◌<◌}
use native.Mathlib.Nat.{lt_of_lt_of_le}
use native.Mathlib.Numerals.{add-one}
use native.Mathlib.Omega.{arith}
use lib.ListN.{length, take, drop, get_or, length-map}
use lib.Seq.{length-take-le, split_at, take-suc}
use Rattle.format.specs.declared.row.Row.{Row}
use Rattle.format.specs.Answer.{stored}
use Rattle.format.specs.Item.{Item}
use Rattle.format.specs.Names.{names_from}
use Rattle.format.specs.Canonical.{canonical, canonical_from}
use Rattle.format.specs.Rows.{item_at, items_at}
use Rattle.format.specs.Writing.{is_bad}
use Rattle.format.specs.Limits.{max_bytes, max_entries, max_rows}
use Rattle.rows.specs.Plan.{plan_size}
use Rattle.format.proofs.Lists.{all-at, map-append}
use Rattle.wire.specs.Output.{Puts}
use Rattle.encoder.specs.Output.{PutsAt}
use Rattle.encoder.specs.Plan.{Planned, encoded_at}
use Rattle.encoder.proofs.PutLaws.{at_seam, one_fits, puts-more}
use Rattle.writer.specs.Putting.{Putting}
use Rattle.format.specs.Rows.{blank}

-- row i, after those before it
module _ (text plan : List ℕ) (rows : List Row) (capacity : ℕ) (p : Putting text plan rows capacity) (i : ℕ)
    (lt : i < length rows) where
  abbrev xs : List Item
  xs = items_at text (take i rows)

  abbrev x : Item
  x = item_at text (get_or rows i blank)

  abbrev later : List Row
  later = drop (suc i) rows

  rows_split : rows ≡ take i rows ++ (get_or rows i blank ∷ later)
  rows_split = split_at rows i blank lt

  items_split : items_at text rows ≡ xs ++ (x ∷ items_at text later)
  items_split = ap (items_at text) rows_split ∙ map-append (item_at text) (take i rows) (get_or rows i blank ∷ later)

  count : length xs ≡ i
  count = length-map (take i rows) (item_at text) ∙ length-take-le i rows (omega arith)

  planned : Planned plan (xs ++ (x ∷ items_at text later))
  planned = rw items_split at p.planned

  few : length (names_from [] (xs ++ (x ∷ items_at text later))) ≤ max_entries
  few = rw (← items_split) p.few

  fits : length (canonical (xs ++ (x ∷ items_at text later))) ≤ capacity
  fits = rw (← items_split) p.fits

  -- what `put_next` asks
  pub next_asks : (at : ℕ) (new : List ℕ) → length new ≡ capacity → at ≡ length (canonical xs)
      → (i < max_rows) × (length plan ≡ plan_size) × (length text ≤ max_bytes)
      × (is_bad text (get_or rows i blank) ≡ false) × (at + length (encoded_at plan i x) ≤ length new)
  next_asks at new e f = (
    lt_of_lt_of_le lt (rw (length-map rows (item_at text)) at p.planned.long),
    p.long,
    p.short (omega arith),
    sound,
    rw (e, f) (rw count at (one_fits plan capacity xs x (items_at text later) planned few fits)),
  )
    where
      sound : is_bad text (get_or rows i blank) ≡ false
      sound = all-at (λ (r : Row). is_bad text r ≡ false) (take i rows ++ (get_or rows i blank ∷ later))
          (length (take i rows)) (rw rows_split at p.fine) (at_seam (take i rows) later (get_or rows i blank))

  more : items_at text (take (i + 1) rows) ≡ xs ++ (x ∷ [])
  more = rw (add-one, take-suc rows i blank lt) (map-append (item_at text) (take i rows) (get_or rows i blank ∷ []))

  pub put-more : (at r : ℕ) (old new next : List ℕ) → Puts (canonical xs) at old new
      → PutsAt at (encoded_at plan i x) r new next → Puts (canonical (items_at text (take (i + 1) rows))) r old next
  put-more at r old new next a b = rw more (puts-more plan capacity xs x (items_at text later) planned few fits at r old
      new next a (rw count b))

pub put-none : (text : List ℕ) (rows : List Row) (old : List ℕ) → Puts (canonical (items_at text (take 0 rows))) 0 old old
unfolding canonical canonical_from
put-none text rows old = (refl, refl)

pub put_all : (text : List ℕ) (rows : List Row) (i at : ℕ) (old new : List ℕ) → length rows ≤ i
    → Puts (canonical (items_at text (take i rows))) at old new → new ≡ stored old (Ok (canonical (items_at text rows)))
unfolding stored
put_all text rows i at old new l p = rw (take_all i rows l) at p.1
