-- Items written one after the other as they were planned: each stands after those before it. Assumes nothing.
use Rattle.std.specs.Prelude.{Option, None, Some, slice_get}
use mathlib.Core.Path.{◌≡◌, refl, sym, ap, ◌∙◌}
use mathlib.Core.List.{List, [], ◌∷◌, ◌++◌, append_assoc}
use Prim.Native.Nat.{ℕ, ◌+◌, ◌≤◌}
use native.Mathlib.Nat.{le_trans}
use native.Mathlib.Omega.{arith}
use lib.ListN.{length, take, drop, length-append}
use lib.Seq.{take_at, drop-append-add, drop-drop}
use Rattle.format.specs.Item.{Item, is_name}
use Rattle.format.specs.Names.{index, names_from}
use Rattle.format.specs.Canonical.{canonical, canonical_from, encoded, full, named}
use Rattle.format.proofs.Tests.{cases, ltb_no, ltb_yes, pick_no, pick_yes}
use Rattle.format.proofs.Encoding.{at_lt}
use Rattle.format.proofs.Names.{canonical-append, index_at, names-append, names-longer}
use Rattle.wire.specs.Output.{Puts}
use Rattle.encoder.specs.Output.{PutsAt}
use Rattle.encoder.specs.Plan.{Planned, encoded_at, referring, refer_to}
use Rattle.encoder.proofs.MeasureLaws.{canonical-more}

-- ---- bytes after bytes

puts_then : (cs bs : List ℕ) (at r : ℕ) (old new next : List ℕ) → Puts cs at old new → PutsAt at bs r new next → Puts (cs ++ bs) r old next
puts_then cs bs at r old new next p q =
    (q.0 ∙ rw (p.0, length-append cs bs), q.1 ∙ rw (p.1, p.0) both)
  where
    both : take (length cs) (cs ++ drop (length cs) old)
        ++ (bs ++ drop (length cs + length bs) (cs ++ drop (length cs) old)) ≡ (cs ++ bs) ++ drop (length (cs ++ bs)) old
    both =
        rw (
          take_at cs (drop (length cs) old) (length cs) refl,
          drop-append-add cs (drop (length cs) old) (length bs),
          drop-drop (length bs) (length cs) old,
          length-append cs bs,
          append_assoc cs bs (drop (length cs + length bs) old),
        )

-- ---- an item as the plan has it

by_reference : (x : Item) (es : List Item) (o : Option ℕ) → index x es ≡ o → length es ≤ 256 → named o x ≡ referring (refer_to o) (full x)
unfolding named referring refer_to
by_reference x es None e l = sym (pick_no _ _ (ltb_no {a = 256} {b = 256} (omega arith)))
by_reference x es (Some i) e l = let h = at_lt es i (index_at x es e).at in sym (pick_yes _ _ (ltb_yes {a = i} {b = 256} (omega arith)))

pub at_seam : {A : Type 0} (xs ys : List A) (x : A) → slice_get (xs ++ (x ∷ ys)) (length xs) ≡ Some x
at_seam [] ys x = refl
at_seam (y ∷ xs) ys x = at_seam xs ys x

encoded_plan : (plan : List ℕ) (xs ys : List Item) (x : Item) → Planned plan (xs ++ (x ∷ ys))
    → length (names_from [] xs) ≤ 256 → encoded (names_from [] xs) x ≡ encoded_at plan (length xs) x
unfolding encoded encoded_at
encoded_plan plan xs ys x p l =
    cases (is_name x)
    (λ n. pick_yes _ _ n ∙ by_reference x (names_from [] xs) (index x (names_from [] xs)) refl l
    ∙ ap (λ (r : ℕ). referring r (full x))
    (sym (rw (take_at xs (x ∷ ys) (length xs) refl) at (p.refers (length xs) x (at_seam xs ys x) n)))
    ∙ sym (pick_yes _ _ n))
    (λ n. pick_no _ _ n ∙ sym (pick_no _ _ n))

-- ---- items in their order

pub names_fewer : (xs ys : List Item) → length (names_from [] (xs ++ ys)) ≤ 256 → length (names_from [] xs) ≤ 256
names_fewer xs ys l = le_trans (names-longer (names_from [] xs) ys) (rw (← names-append [] xs ys) l)

pub canonical-within : (xs ys : List Item) → length (canonical xs) ≤ length (canonical (xs ++ ys))
unfolding canonical
canonical-within xs ys = rw (canonical-append [] xs ys, length-append (canonical_from [] xs)) (omega arith)

-- ---- item x after the items xs, before the items ys

module _ (plan : List ℕ) (capacity : ℕ) (xs : List Item) (x : Item) (ys : List Item)
    (planned : Planned plan (xs ++ (x ∷ ys))) (few : length (names_from [] (xs ++ (x ∷ ys))) ≤ 256)
    (fits : length (canonical (xs ++ (x ∷ ys))) ≤ capacity) where
  pub one_more : canonical (xs ++ (x ∷ [])) ≡ canonical xs ++ encoded_at plan (length xs) x
  one_more = canonical-more xs x
      ∙ ap (λ (bs : List ℕ). canonical xs ++ bs) (encoded_plan plan xs ys x planned (names_fewer xs (x ∷ ys) few))

  pub one_fits : length (canonical xs) + length (encoded_at plan (length xs) x) ≤ capacity
  one_fits =
      rw (← length-append (canonical xs) (encoded_at plan (length xs) x), ← one_more)
      (le_trans (canonical-within (xs ++ (x ∷ [])) ys) (rw (append_assoc xs (x ∷ []) ys) fits))

  pub puts-more : (at r : ℕ) (old new next : List ℕ) → Puts (canonical xs) at old new
      → PutsAt at (encoded_at plan (length xs) x) r new next → Puts (canonical (xs ++ (x ∷ []))) r old next
  puts-more at r old new next a b = rw one_more (puts_then (canonical xs) (encoded_at plan (length xs) x) at r old new next a b)
