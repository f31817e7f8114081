-- Texts: how long they are, what a table says of a bundle's, and where there is room for them. Assumes nothing.
use Rattle.std.specs.Prelude.{Err, Ok}
use mathlib.Core.Path.{◌≡◌, refl, sym, ap, subst, subst⁻¹, ◌∙◌}
use mathlib.Core.List.{List, [], ◌∷◌, ◌++◌, map, flatten}
use Prim.Native.Nat.{ℕ, suc, ◌+◌, ◌*◌, ◌≤◌, ◌<◌}
use native.Mathlib.Numerals.{add-one}
use native.Mathlib.Omega.{arith}
use lib.ListN.{length, drop, get_or, replicate, length-append, length-map, drop_of_length-le, get_or-append}
use lib.Seq.{drop-cons}
use Rattle.format.specs.declared.bundle.Bundle.{Bundle}
use Rattle.format.specs.declared.row.Row.{Row}
use Rattle.format.specs.Limits.{max_rows}
use Rattle.format.specs.Error.{code_of}
use Rattle.format.specs.Answer.{Answer, outcome_of, stored, then}
use Rattle.format.specs.Reading.{State, counts, counts_of, lenient, reading}
use Rattle.format.specs.Rows.{blank, row_of, rows}
use Rattle.format.proofs.Tests.{ltb_no, ltb_yes, pick_no, pick_yes}
use Rattle.format.proofs.Lists.{length-items}
use Rattle.format.proofs.Bounds.{reading-within}
use Rattle.reader.specs.Answers.{rows_in}
use Rattle.wire.specs.Output.{Puts}
use Rattle.ascii.specs.Text.{ascii, ended, labelled, newline, space}
use Rattle.ascii.proofs.Lengths.{length-ended, length_flatten, length_four, length-labelled, length_one}
use Rattle.ascii.proofs.Writing.{Stage, first_fits, first, ends}
use Rattle.listed.specs.declared.table.Table.{Table}
use Rattle.listed.specs.Text.{at_word, bundle_word, bundle_line, envelope_word, envelope_text, first_line, max_text, names_word, refused_word, row_line, row_lines, rows_word, rows_of, text, told_within, within}
use Rattle.listed.specs.Promises.{Prints, Tabled, printed_of}

-- ---- lengths

length_line : (k : ℕ) (word : List ℕ) (n : ℕ) (other : List ℕ) (m : ℕ)
    → length (bundle_line k word n other m) ≤ 68 + length word + length other
unfolding ascii bundle_line
length_line k word n other m =
    omega (arith, length_four (labelled bundle_word k) (labelled word n) (labelled other m) (newline ∷ []), length-labelled bundle_word k, length-labelled word n, length-labelled other m)

length-first : (k : ℕ) (r : Answer Bundle) → length (first_line k r) ≤ 81
unfolding ascii first_line
length-first k (Ok b) = length_line k rows_word b.rows names_word b.entries
length-first k (Err r) = length_line k refused_word (code_of r.error) at_word r.place

length-row : (i : ℕ) (r : Row) → length (row_line i r) ≤ 84
unfolding row_line
length-row i r =
    omega (arith, length_four (ended i space) (ended r.kind space) (ended r.number space) (ended r.start newline), length-ended i space, length-ended r.kind space, length-ended r.number space, length-ended r.start newline)

length-rows : (i : ℕ) (rs : List Row) → length (flatten (row_lines i rs)) ≤ 84 * length rs
unfolding flatten row_lines
length-rows i [] = omega arith
length-rows i (r ∷ rs) = omega (arith, length-append (row_line i r) (flatten (row_lines (suc i) rs)), length-row i r, length-rows (suc i) rs)

pub envelope-short : (k x : ℕ) → length (envelope_text k x) ≤ max_text
unfolding ascii envelope_text
envelope-short k x =
    omega (arith, length_flatten (labelled envelope_word k) (labelled refused_word x ∷ (newline ∷ []) ∷ []), length_flatten (labelled refused_word x) ((newline ∷ []) ∷ []), length_one (newline ∷ []), length-labelled envelope_word k, length-labelled refused_word x)

-- ---- the rows of a bundle

module _ (bs : List ℕ) where
  abbrev pub printed : List Row
  printed = rows_of (rows lenient bs)

  few_in : (r : Answer State) → reading lenient bs ≡ r → length (rows_of (then r (λ s. Ok (map row_of s.found)))) ≤ max_rows
  unfolding rows_of then
  few_in (Err f) e = omega arith
  few_in (Ok u) e = omega (arith, length-map u.found row_of, length-items u.found, (reading-within lenient bs e).rows)

  pub few-rows : length printed ≤ max_rows
  unfolding rows
  few-rows = few_in (reading lenient bs) refl

  pub text-short : (k : ℕ) → length (text k bs) ≤ max_text
  unfolding text
  text-short k = omega (arith, length_flatten (first_line k (counts lenient bs)) (row_lines 0 printed), length-first k (counts lenient bs), length-rows 0 printed, few-rows)

  counted_in : (r : Answer State) → rows_in (then r (λ s. Ok (counts_of s))) ≡ length (rows_of (then r (λ s. Ok (map row_of s.found))))
  unfolding rows_in counts_of rows_of then
  counted_in (Err f) = refl
  counted_in (Ok u) = sym (length-map u.found row_of)

  counted : rows_in (counts lenient bs) ≡ length printed
  unfolding counts rows
  counted = counted_in (reading lenient bs)

  -- no line is left
  pub last : {w l₀ l : List ℕ} {at i : ℕ} → Stage w l₀ l at (row_lines i (drop i printed)) → length printed ≤ i → Puts w at l₀ l
  unfolding row_lines
  last {w} {l₀} {l} {at} {i} q g = ends (subst (λ (rs : List Row). Stage w l₀ l at (row_lines i rs)) (drop_of_length-le printed {i = i} g) q)

  -- ---- a table

  module _ (t : Table) (p : Tabled bs t) where
    pub row_count : rows_in t.answer ≡ length printed
    row_count = ap rows_in p.answer ∙ counted

    held : (old : List Row) (r : Answer (List Row)) → stored old r ≡ rows_of r ++ drop (length (rows_of r)) old
    unfolding stored rows_of
    held old (Err f) = refl
    held old (Ok rs) = refl

    row_line_lem : (i : ℕ) → i < length printed
        → row_lines i (drop i printed) ≡ row_line i (get_or t.rows i blank) ∷ row_lines (i + 1) (drop (i + 1) printed)
    unfolding row_lines
    row_line_lem i l =
        let e : get_or t.rows i blank ≡ get_or printed i blank = ap (λ (rs : List Row). get_or rs i blank) (p.filled
        ∙ held (replicate max_rows blank) (rows lenient bs)) ∙ get_or-append printed _ blank i l in
        rw (e, add-one, drop-cons printed i blank l)

    -- the line that is next
    pub turn : {w l₀ l : List ℕ} {at i : ℕ} → Stage w l₀ l at (row_lines i (drop i printed)) → i < length printed
        → Stage w l₀ l at (row_line i (get_or t.rows i blank) ∷ row_lines (i + 1) (drop (i + 1) printed))
    turn {w} {l₀} {l} {at} {i} q g = subst (Stage w l₀ l at) (row_line_lem i g) q

    module _ (k : ℕ) (out : List ℕ) (capacity : max_text ≤ length out) where
      by_lines : text k bs ≡ flatten (first_line k t.answer ∷ row_lines 0 printed)
      unfolding text
      by_lines = ap (λ (r : Answer Bundle). flatten (first_line k r ∷ row_lines 0 printed)) (sym p.answer)

      fits : length (flatten (first_line k t.answer ∷ row_lines 0 printed)) ≤ length out
      fits = rw (← by_lines) (omega (arith, text-short k))

      pub line_fits : length (first_line k t.answer) ≤ length out
      line_fits = first_fits (first_line k t.answer) (row_lines 0 printed) out fits

      pub line_put : (l : List ℕ) (n : ℕ) → Puts (first_line k t.answer) n out l
          → Stage (text k bs) out l n (row_lines 0 printed)
      line_put l n q = subst⁻¹ (λ (w : List ℕ). Stage w out l n (row_lines 0 printed)) by_lines
          (first (first_line k t.answer) (row_lines 0 printed) out fits l n q)

-- ---- a buffer

module _ (out : List ℕ) (l : length out < max_text) where
  pub put-none : (bs : List ℕ) → Puts (within (length out) bs) 0 out out
  unfolding within
  put-none bs = let e = pick_yes [] bs (ltb_yes l) in rw e (refl, refl)

  told_none : (o : Answer Unit) → Ok tt ≡ told_within (length out) o
  unfolding told_within
  told_none o = sym (pick_yes (Ok tt) o (ltb_yes l))

  pub prints_none : (k : ℕ) (bs : List ℕ) → Prints k bs out (record { written = 0; outcome = Ok tt }) out
  prints_none k bs = record { puts = put-none (text k bs); outcome = told_none (outcome_of (counts lenient bs)) }

module _ (out : List ℕ) (g : max_text ≤ length out) where
  pub put_all : {l : List ℕ} {n : ℕ} (bs : List ℕ) → Puts bs n out l → Puts (within (length out) bs) n out l
  unfolding within
  put_all {l} {n} bs q = let e = pick_no [] bs (ltb_no g) in subst⁻¹ (λ (w : List ℕ). Puts w n out l) e q

  told_all : (o : Answer Unit) → o ≡ told_within (length out) o
  unfolding told_within
  told_all o = sym (pick_no (Ok tt) o (ltb_no g))

  pub prints_all : {l : List ℕ} {n : ℕ} (k : ℕ) (bs : List ℕ) (t : Table) → Tabled bs t → Puts (text k bs) n out l
      → Prints k bs out (printed_of n t.answer) l
  prints_all k bs t p q =
      record { puts = put_all (text k bs) q; outcome = ap outcome_of p.answer ∙ told_all (outcome_of (counts lenient bs)) }
