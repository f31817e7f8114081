-- Demand 3 of a call that joins: proves the statement of specs/Demand3. A call keeps the promise of `joining`, and what
-- joining comes to is told by the items of both bundles (proofs/Joins). Assumes nothing.
use Rattle.std.specs.Prelude.{Err, Ok}
use mathlib.Core.Path.{◌≡◌, refl, sym, ap, ◌∙◌}
use Prim.Native.Nat.{ℕ, ◌≤◌}
use mathlib.Core.List.{List, ◌++◌, append_assoc, append-nil}
use lib.ListN.{length, take, drop}
use Rattle.format.specs.Limits.{max_rows}
use Rattle.format.specs.Answer.{Answer, Failure, counted, fail, on_side, sided, stored, then}
use Rattle.format.specs.Written.{Writes}
use Rattle.format.specs.Item.{Item}
use Rattle.format.specs.Reading.{Options}
use Rattle.format.specs.Canonical.{canonical}
use Rattle.format.specs.Writing.{fitted}
use Rattle.format.specs.Joining.{joining, together}
use Rattle.format.specs.Laws.{Means}
use Rattle.format.specs.Demand3.{Demand3, Exceeds, Joins, OfThree, OfTwo, Refused, Way, Yields, left_first, refused, right_first}
use Rattle.format.proofs.Fitting.{fitted-fits, fitted-over}
use Rattle.format.proofs.Stored.{stored-counted, stored-failed}
use Rattle.format.proofs.Joins.{exceeds_refused, fits_else, join_result, joining-both, means_empty, means_within, size-refused, together-fits, together-good, together-names, together-refused, together-rows, together-within}

-- ---- a call that keeps its promise, by what the definition gives

module _ {result : Answer (List ℕ)} {old new : List ℕ} {r : Answer ℕ} (w : Writes result old r new) where
  gives : {bs : List ℕ} → result ≡ Ok bs → (r ≡ Ok (length bs)) × (new ≡ bs ++ drop (length bs) old)
  unfolding counted stored then
  gives e = (w.answer ∙ ap counted e, w.buffer ∙ ap (stored old) e)

  fails : {f : Failure} → result ≡ Err f → (r ≡ Err f) × (new ≡ old)
  unfolding counted stored then
  fails e = (w.answer ∙ ap counted e, w.buffer ∙ ap (stored old) e)

  given : {n : ℕ} → r ≡ Ok n → (result ≡ Ok (take n new)) × (length (take n new) ≡ n)
  given e = stored-counted old _ w.buffer (sym w.answer ∙ e)

  failed_with : {f : Failure} → r ≡ Err f → (result ≡ Err f) × (new ≡ old)
  failed_with e = stored-failed old _ w.buffer (sym w.answer ∙ e)

failure_of : {r : Answer ℕ} → Refused r → (f : Failure) × (r ≡ Err f)
failure_of refused = (_, refl)

is-refused : {r : Answer ℕ} {f : Failure} → r ≡ Err f → Refused r
is-refused e = rw e refused

module _ (o : Options) where
  -- ---- two bundles

  of_two : {a b old new : List ℕ} {xs ys : List Item} {r : Answer ℕ} → Means o a xs → Means o b ys
      → Joins o a b old r new → OfTwo o xs ys old r new
  unfolding fail
  of_two {old = old} {xs = xs} {ys} p q j =
      let n = length old in
      let zs = xs ++ ys in
      let e = joining-both n p q in
      let answered : (Exceeds n zs → ⊥) → joining o _ _ n ≡ Ok (canonical zs) = λ x. e ∙ together-fits n zs (fits_else n zs x) in
      record {
        result = λ k. (together-good n zs (sym e ∙ (given j k).0)).1;
        refused = (
          λ x. let (f, k) = failure_of x in together-refused n zs (f, sym e ∙ (failed_with j k).0),
          λ x. let (f, k) = exceeds_refused n zs x in is-refused (fails j (e ∙ k)).0,
        );
        writes = λ x. (gives j (answered x)).1;
        answers = λ x. (gives j (answered x)).0;
        untouched = λ x. (failed_with j (failure_of x).1).1;
        rows_first = λ l. (fails j (e ∙ together-rows n zs l)).0;
        names_next = λ l m. (fails j (e ∙ together-names n zs l m)).0;
        size_last = λ l m x. let (f, k) = failure_of x in k ∙ ap Err (size-refused n zs l m (sym e ∙ (failed_with j k).0));
      }

  -- ---- the empty bundle, and three

  yields_of : {result : Answer (List ℕ)} {old new : List ℕ} {xs : List Item} {r : Answer ℕ}
      → result ≡ fitted (length old) (canonical xs) → Writes result old r new → Yields o xs old r new
  unfolding fail
  yields_of {old = old} {xs = xs} e w =
      record {
        yields = rw e at w;
        fits = λ l. gives w (e ∙ fitted-fits (length old) (canonical xs) l);
        over = λ l. fails w (e ∙ fitted-over (length old) (canonical xs) l);
      }

  -- A bundle alone is within the limits but for the size.
  alone : {a : List ℕ} {xs : List Item} (capacity : ℕ) → Means o a xs → together capacity xs ≡ fitted capacity (canonical xs)
  alone {xs = xs} capacity p = together-within capacity xs (means_within p)

  of_three : {a b c : List ℕ} {xs ys zs : List Item} → max_rows ≤ o.capacity → Means o a xs → Means o b ys
      → Means o c zs → OfThree o a b c xs ys zs
  of_three {a} {b} {c} {xs} {ys} {zs} whole p q s =
      record { result = λ w. (result w).0; answers = answers; agree = λ v w. (answers v ∙ sym (answers w), (result v).0 ∙ sym (result w).0) }
    where
      result : {n : ℕ} {new : List ℕ} → Way o a b c n new → (take n new ≡ canonical (xs ++ (ys ++ zs))) × (length (take n new) ≡ n)
      result (left_first i j) =
          let ab = (join_result _ whole p q (given i refl).0).1 in
          let (e, l) = given j refl in
          ((join_result _ whole ab s e).0 ∙ ap canonical (append_assoc xs ys zs), l)
      result (right_first i j) =
          let bc = (join_result _ whole q s (given i refl).0).1 in
          let (e, l) = given j refl in
          ((join_result _ whole p bc e).0, l)

      answers : {n : ℕ} {new : List ℕ} → Way o a b c n new → n ≡ length (canonical (xs ++ (ys ++ zs)))
      answers w = let (e, l) = result w in sym l ∙ ap length e

  -- ---- demand 3, whole

  pub demand_3_of : max_rows ≤ o.capacity → Demand3 o
  unfolding joining on_side then
  demand_3_of whole =
      record {
        two = of_two;
        empty_first = λ {old = old} p j. yields_of (joining-both (length old) (means_empty o) p ∙ alone (length old) p) j;
        empty_second = λ {old = old} {xs = xs} p j.
            yields_of (joining-both (length old) p (means_empty o) ∙ ap (together (length old)) (append-nil xs) ∙ alone (length old) p) j;
        three = of_three whole;
        unread_first = λ a b {f = f} e j. let (p, q) = fails j {f = sided 1 f} (rw e) in record { answer = p; untouched = q };
        unread_second = λ a b {f = f} d e j. let (p, q) = fails j {f = sided 2 f} (rw (d, e)) in record { answer = p; untouched = q };
      }
