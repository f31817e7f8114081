-- Items measured: one more. Assumes nothing.
use Rattle.std.specs.Prelude.{Option, None, Some, slice_get}
use mathlib.Core.Path.{◌≡◌, refl, ap, sym, ◌∙◌}
use mathlib.Core.Logic.{⊎_elim}
use mathlib.Core.Bool.{true, false}
use mathlib.Core.List.{List, [], ◌∷◌, ◌++◌, append-nil}
use Prim.Native.Nat.{ℕ, ◌+◌, ◌≤◌, ◌<◌, zero-le}
use native.Mathlib.Omega.{arith}
use lib.ListN.{length, get_or, set, length-set, length-append}
use lib.Dec.{eqb}
use lib.Seq.{get_or-set_same, get_or-set_other, take-append-le, take-append_seam}
use Rattle.format.specs.Header.{header}
use Rattle.format.specs.Item.{Item, is_name}
use Rattle.format.specs.Names.{same_name, index, noted, names_from}
use Rattle.format.specs.Utf8.{utf8}
use Rattle.format.specs.Canonical.{full, encoded, canonical, canonical_from}
use Rattle.format.proofs.Tests.{clash, and-true, none-some}
use Rattle.format.proofs.Names.{names-append, canonical-append, noted-plain, noted-known, noted-fresh, index_at, at_snoc, same_true}
use Rattle.format.proofs.Encoding.{at_lt}
use Rattle.format.proofs.Strict.{encoded-plain, encoded-known, encoded-fresh}
use Rattle.symbols.specs.declared.names.Names.{Names}
use Rattle.symbols.specs.Names.{Empty, Entered}
use Rattle.encoder.specs.Plan.{refer_to, Planned, Measured}

module _ (xs : List Item) (x : Item) where
  abbrev es : List Item
  es = names_from [] xs

  pub names_more : names_from [] (xs ++ (x ∷ [])) ≡ noted x (names_from [] xs)
  unfolding names_from
  names_more = names-append [] xs (x ∷ [])

  pub canonical-more : canonical (xs ++ (x ∷ [])) ≡ canonical xs ++ encoded (names_from [] xs) x
  unfolding canonical canonical_from
  canonical-more = canonical-append [] xs (x ∷ []) ∙ ap (λ (l : List ℕ). canonical_from [] xs ++ l) (append-nil (encoded es x))

  length_more : (size n : ℕ) → size ≡ length (canonical xs) → n ≡ length (encoded (names_from [] xs) x)
      → size + n ≡ length (canonical (xs ++ (x ∷ [])))
  length_more size n e f = omega (arith, ap length canonical-more ∙ length-append (canonical xs) (encoded es x))

  planned-more : (plan plan' : List ℕ) → Planned plan xs → length xs < 1024 → ((j : ℕ) → j < length xs → get_or plan' j 0 ≡ get_or plan j 0)
      → (is_name x ≡ true → get_or plan' (length xs) 0 ≡ refer_to (index x (names_from [] xs))) → Planned plan' (xs ++ (x ∷ []))
  planned-more plan plan' p lt old new =
      record {
        long = omega (arith, length-append xs (x ∷ []));
        refers = λ j y e n. ⊎_elim
            (λ (q : slice_get xs j ≡ Some y). let l = at_lt xs j q in old j l ∙ p.refers j y q n
            ∙ ap (λ (zs : List Item). refer_to (index y (names_from [] zs)))
            (sym (take-append-le j xs (x ∷ []) (omega arith))))
            (λ (q : (j ≡ length xs) × (x ≡ y)). rw (q.0, ← q.1, take-append_seam xs (x ∷ [])) (new (rw (← q.1) at n)))
            (at_snoc xs x j e);
      }

-- ---- references

refer_some : (o : Option ℕ) (i : ℕ) → o ≡ Some i → refer_to o ≡ i
unfolding refer_to
refer_some o i e = rw e

refer_none : (o : Option ℕ) → o ≡ None → refer_to o ≡ 256
unfolding refer_to
refer_none o e = rw e

-- ---- before the first item

pub measured-none : {slots : ℕ} {a b : List ℕ} {t : Names} (plan : List ℕ) → Empty a b t → length plan ≡ slots → 1024 ≤ slots
    → Measured slots t plan [] 0
unfolding names_from canonical canonical_from
measured-none plan e long wide =
    record {
      names = e.none;
      texts = λ i x e. none-some e;
      length_is = refl;
      plan_size = long;
      wide = wide;
      planned = record { long = zero-le; refers = λ j x e. none-some e };
    }

-- ---- one item more

module _ {slots : ℕ} {t : Names} {plan : List ℕ} {xs : List Item} {size : ℕ}
    (m : Measured slots t plan xs size) (x : Item) (lt : length xs < 1024) where
  -- what is no name
  pub measure_plain : (n : ℕ) → is_name x ≡ false → n ≡ length (full x) → Measured slots t plan (xs ++ (x ∷ [])) (size + n)
  measure_plain n p e =
      record {
        names = m.names ∙ sym same_names;
        texts = λ i y q. m.texts i y (rw same_names at q);
        length_is = length_more xs x size n m.length_is (e ∙ ap length (sym (encoded-plain (names_from [] xs) x p)));
        plan_size = m.plan_size;
        wide = m.wide;
        planned = planned-more xs x plan plan m.planned lt (λ j l. refl) (λ q. clash q p);
      }
    where
      same_names : names_from [] (xs ++ (x ∷ [])) ≡ names_from [] xs
      same_names = names_more xs x ∙ noted-plain x (names_from [] xs) p

  -- a name that has an entry
  pub measure_known : (i n : ℕ) → is_name x ≡ true → index x (names_from [] xs) ≡ Some i → n ≡ length (header 7 i)
      → Measured slots t (set plan (length xs) i) (xs ++ (x ∷ [])) (size + n)
  measure_known i n p q e =
      record {
        names = m.names ∙ sym same_names;
        texts = λ j y h. m.texts j y (rw same_names at h);
        length_is = length_more xs x size n m.length_is (e ∙ ap length (sym (encoded-known (names_from [] xs) x p q)));
        plan_size = length-set plan (length xs) i ∙ m.plan_size;
        wide = m.wide;
        planned = planned-more xs x plan (set plan (length xs) i)
            m.planned lt (λ j l. get_or-set_other plan (length xs) j i 0 (λ h. omega arith))
            (λ _. get_or-set_same plan (length xs) i 0 (omega (arith, m.plan_size, m.wide))
            ∙ sym (refer_some (index x (names_from [] xs)) i q));
      }
    where
      same_names : names_from [] (xs ++ (x ∷ [])) ≡ names_from [] xs
      same_names = names_more xs x ∙ noted-known x (names_from [] xs) q

  -- a name that gets one
  pub measure_fresh : {u : Names} {start : ℕ} (plan' : List ℕ) (n : ℕ) → is_name x ≡ true → Entered t u x start
      → utf8 x.content ≡ true → n ≡ length (full x)
      → length plan' ≡ slots → ((j : ℕ) → j < length xs → get_or plan' j 0 ≡ get_or plan j 0) → get_or plan' (length xs) 0 ≡ 256
      → Measured slots u plan' (xs ++ (x ∷ [])) (size + n)
  measure_fresh plan' n p g text f pl old new =
      record {
        names = g.grown.names ∙ rw (m.names, g.named) (sym more-names);
        texts = λ i y h. ⊎_elim (m.texts i y) (λ (w : (i ≡ length (names_from [] xs)) × (x ≡ y)). rw w.1 at text)
            (at_snoc (names_from [] xs) x i (rw more-names at h));
        length_is = length_more xs x size n m.length_is (f ∙ ap length (sym (encoded-fresh (names_from [] xs) x q)));
        plan_size = pl;
        wide = m.wide;
        planned = planned-more xs x plan plan' m.planned lt old (λ _. new ∙ sym (refer_none (index x (names_from [] xs)) q));
      }
    where
      q : index x (names_from [] xs) ≡ None
      q = rw m.names at g.new

      more-names : names_from [] (xs ++ (x ∷ [])) ≡ names_from [] xs ++ (x ∷ [])
      more-names = names_more xs x ∙ noted-fresh x (names_from [] xs) p q

-- A name that stands in the table is text.
pub known-text : {slots : ℕ} {t : Names} {plan : List ℕ} {xs : List Item} {size : ℕ}
    → Measured slots t plan xs size → (x : Item) (i : ℕ) → index x (names_from [] xs) ≡ Some i
    → utf8 x.content ≡ true
unfolding same_name
known-text {xs = xs} m x i e =
    let w = index_at x (names_from [] xs) e in
    let c : x.content ≡ w.entry.content = same_true _ _ (and-true (eqb x.kind w.entry.kind) _ w.alike).1 in
    rw c (m.texts i w.entry w.at)
