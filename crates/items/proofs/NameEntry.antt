-- A name in full in the packed table: what its entry stands for, and what a lookup of it says. Assumes nothing.
use Rattle.items.specs.declared.item.Refusal.{Refusal}
use Rattle.items.specs.declared.item.Refusal.TheVariants as refusal
use Rattle.std.specs.Prelude.{Result, Ok, Err}
use Rattle.std.specs.Prelude.{Option, None, Some, is_some}
use mathlib.Core.Path.{◌≡◌, refl, ap, sym, ◌∙◌}
use mathlib.Core.Bool.{true, false}
use mathlib.Core.List.{List, [], ◌∷◌, ◌++◌, map}
use Prim.Native.Nat.{ℕ, ◌+◌, ◌-◌, ◌≤◌, ◌<◌}
use native.Mathlib.Omega.{arith}
use lib.ListN.{length, take, drop, set, length-drop, length-set}
use lib.Seq.{length-take-le}
use Rattle.format.specs.declared.error.Error.TheVariants.{NotCanonical, TooManyEntries}
use Rattle.format.specs.Item.{Item}
use Rattle.format.specs.Names.{index}
use Rattle.format.specs.Reading.{Found, items_of}
use Rattle.format.proofs.Tests.{clash}
use Rattle.format.proofs.Names.{item_path}
use Rattle.symbols.specs.Entry.{plain_entry, Packed, name_in, names_in, name, Part}
use Rattle.symbols.specs.Noting as noting
use Rattle.symbols.proofs.EntryLaws.{packed_plain, side_both}
use Rattle.symbols.specs.Entries.{found_in, entries_of, part_of}
use Rattle.symbols.proofs.Entries.{entries-more, found_packed}
use Rattle.items.specs.declared.item.Out.{Out}
use Rattle.items.specs.Judging.{is_known, fresh_of, Entered, known, full, entered}

items-entries : (s es : List ℕ) (names : ℕ) → items_of (entries_of s es names) ≡ names_in s s (take names es)
unfolding items_of entries_of found_in names_in
items-entries s es names = go (take names es)
  where
    go : (ds : List ℕ) → map (λ (x : Found). x.item) (map (found_in s) ds) ≡ map (name_in s s) ds
    go [] = refl
    go (d ∷ ds) = ap (λ (l : List Item). name_in s s d ∷ l) (go ds)

module _ (s es : List ℕ) (names kind next e : ℕ) (lo : 10 ≤ kind) (hi : kind ≤ 11) (le : next ≤ e) (short : e ≤ 16384)
    (size : length es ≡ 256) where
  abbrev part : Found
  part = part_of s kind next (e - next)

  -- ---- leniently

  abbrev plain : ℕ
  plain = plain_entry kind next (e - next)

  pub plain-full : (links : List ℕ) {r : Result Out Refusal} → 256 ≤ names → r ≡ Err (refusal.Error TooManyEntries) → Entered false s es es links names kind next e r
  plain-full links l q = full refl l q

  pub plain-entered : (links : List ℕ) {v : ℕ} {r : Result Out Refusal} → v ≡ plain → names < 256 → r ≡ Ok (fresh_of kind e)
      → Entered false s es (set es names v) links names kind next e r
  plain-entered links ev l q =
      let p : Packed plain next 0 (e - next) kind = packed_plain next (e - next) kind (omega arith) lo hi in
      rw ev
      (entered refl l q (entries-more s es names size (omega arith) plain l
      ∙ ap (λ (x : Found). entries_of s es names ++ (x ∷ [])) (found_packed s p))
      (record { few = omega arith; size = length-set es names plain ∙ size; chained = λ z. clash z refl }))

  -- ---- strictly

  abbrev bytes : List ℕ
  bytes = take (e - next) (drop next s)

  module _ (in_bytes : e ≤ length s) where
    long : length bytes ≡ e - next
    long = length-take-le (e - next) (drop next s) (omega (arith, length-drop next s))

    pub stands : Part s s kind 0 next bytes
    stands =
        record {
          low = lo;
          high = hi;
          sides = omega arith;
          short = omega (arith, long);
          near = omega arith;
          inside = rw (side_both 0 s) (omega (arith, long));
          is = rw (long, side_both 0 s);
        }

    is_part : name kind bytes ≡ part.item
    is_part = item_path refl long refl

    known_is : {o : Option ℕ} → index (name kind bytes) (names_in s s (take names es)) ≡ o → is_known s es names part ≡ is_some o
    known_is f = ap is_some (ap (λ (x : Item). index x (items_of (entries_of s es names))) (sym is_part)
        ∙ ap (index (name kind bytes)) (items-entries s es names) ∙ f)

    pub strict-known : {i : ℕ} {es' links' : List ℕ} {r : Result Out Refusal}
        → index (name kind bytes) (names_in s s (take names es)) ≡ Some i → r ≡ Err (refusal.Error NotCanonical)
        → Entered true s es es' links' names kind next e r
    strict-known f q = known (known_is f) q

    pub strict-full : {es' links' : List ℕ} {r : Result Out Refusal} → index (name kind bytes) (names_in s s (take names es)) ≡ None
        → 256 ≤ names → r ≡ Err (refusal.Error TooManyEntries)
        → Entered true s es es' links' names kind next e r
    strict-full f l q = full (known_is f) l q

    pub strict-entered : {es' links' : List ℕ} {r : Result Out Refusal} → noting.Entered s s es es' links' names (name kind bytes) next
        → r ≡ Ok (fresh_of kind e) → Entered true s es es' links' names kind next e r
    unfolding found_in
    strict-entered n q =
        let x : found_in s n.entry ≡ part = λ j. record { item = (n.named ∙ is_part) j; start = n.begins j } in
        entered (known_is n.new) n.room q
        (ap (λ (z : List ℕ). entries_of s z (names + 1)) n.stored
        ∙ entries-more s es names size (omega (arith, n.room)) n.entry n.room
        ∙ ap (λ (y : Found). entries_of s es names ++ (y ∷ [])) x)
        (record { few = omega (arith, n.room); size = n.chained.table.size; chained = λ _. n.chained })
