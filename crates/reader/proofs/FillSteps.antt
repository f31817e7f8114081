-- The second pass, row by row: what each turn of `fill` adds to the rows. Assumes nothing.
use Rattle.std.specs.Prelude.{Err, Ok}
use mathlib.Core.Path.{◌≡◌, refl, sym, ap, ap₂, ◌∙◌}
use mathlib.Core.List.{List, [], ◌∷◌, ◌++◌, map, append-nil}
use Prim.Native.Nat.{ℕ, ◌+◌, ◌≤◌, ◌<◌}
use native.Mathlib.Numerals.{add-one}
use native.Mathlib.Omega.{arith}
use lib.ListN.{length, take, drop, set, length-append, length-map, length-take, take-append-drop, drop_of_length-le}
use lib.Seq.{take-suc-set, drop-drop, drop-set-lt}
use Rattle.format.specs.declared.row.Row.{Row}
use Rattle.format.specs.Limits.{max_entries}
use Rattle.format.specs.declared.failure.Failure.{Failure}
use Rattle.format.specs.Answer.{Answer, then, stored}
use Rattle.format.specs.Reading.{Options, State, counts, counts_of, reading, start}
use Rattle.format.specs.Rows.{row_of, rows}
use Rattle.format.proofs.Tests.{failed-good, order}
use Rattle.format.proofs.Lists.{map-append}
use Rattle.format.proofs.Bounds.{reads-rows}
use Rattle.format.proofs.ReadBack.{reading-reads}
use Rattle.walk.specs.declared.Walked.{Walked}
use Rattle.walk.specs.Walking.{begin, Left, Nexts, Walks}
use Rattle.walk.proofs.Laws.{walk_law}
use Rattle.reader.specs.Answers.{rows_in}
use Rattle.reader.specs.Filling.{Fillable, Fills}

-- ---- how many rows there are

-- What reading answers: an error and no row, or a state with n of them.
data Counted (o : Options) (bs : List ℕ) (n : ℕ) : Type 0 where
  none : n ≡ 0 → ((old : List Row) → old ≡ stored old (rows o bs)) → Counted o bs n
  all : (u : State) → reading o bs ≡ Ok u → length u.found ≡ n
      → ((old : List Row) → map row_of u.found ++ drop n old ≡ stored old (rows o bs)) → Counted o bs n

counted_as : (o : Options) (bs : List ℕ) {n : ℕ} → n ≡ rows_in (counts o bs) → Counted o bs n
unfolding counts rows then rows_in counts_of stored
counted_as o bs {n} c = go (reading o bs) refl
  where
    go : (r : Answer State) → reading o bs ≡ r → Counted o bs n
    go (Err q) e = none (rw e at c) (λ old. rw e refl)
    go (Ok u) e = let m : length u.found ≡ n = sym (rw e at c) in all u e m (λ old. rw (e, length-map u.found row_of, m) refl)

-- There are no more than a table has.
pub counted-within : (o : Options) (bs : List ℕ) {n : ℕ} → n ≡ rows_in (counts o bs) → n ≤ o.capacity
unfolding start
counted-within o bs {n} c = go (counted_as o bs c)
  where
    go : Counted o bs n → n ≤ o.capacity
    go (none z _) = omega arith
    go (all u e m _) = let w = reads-rows (reading-reads {o = o} bs e).1 (omega arith) in omega arith

-- Where reading fails, no row is stored.
pub unfilled : (o : Options) (bs : List ℕ) {f : Failure} → Err f ≡ counts o bs → (old : List Row) → old ≡ stored old (rows o bs)
unfolding counts rows then counts_of stored
unfilled o bs {f} e old = go (reading o bs) refl
  where
    go : (r : Answer State) → reading o bs ≡ r → old ≡ stored old (rows o bs)
    go (Err q) z = rw z refl
    go (Ok u) z = failed-good (rw z at e)

-- ---- row by row

-- The walk has come past i rows of a bundle that reads as u, and they are zs.
pub record Filled (o : Options) (bs : List ℕ) (u : State) (i : ℕ) (table : List ℕ) (w : Walked) (zs : List Row) : Type 0 where
  pub s : State
  pub walks : Walks o bs u s table w
  pub count : length s.found ≡ i
  pub are : zs ≡ map row_of s.found

-- The first i of n rows are filled, the others are as before.
pub record Filling (bs : List ℕ) (n i : ℕ) (table : List ℕ) (w : Walked) (old zs : List Row) : Type 0 where
  pub front : (o : Options) (u : State) → reading o bs ≡ Ok u → length u.found ≡ n → Filled o bs u i table w (take i zs)
  pub rest : drop i zs ≡ drop i old

pub fill_start : (bs : List ℕ) (n : ℕ) (table : List ℕ) (old : List Row) → length table ≡ max_entries → Filling bs n 0 table begin old old
unfolding start
fill_start bs n table old size =
    record { front = λ o u e m. record { s = start; walks = (walk_law o bs e).first table size; count = refl; are = refl }; rest = refl }

module _ {bs : List ℕ} {n i : ℕ} {table : List ℕ} {w : Walked} {old zs : List Row} (g : Filling bs n i table w old zs) where
  -- a row is left
  pub fill_left : Fillable bs old n → i < n → Left bs table w
  fill_left f l = go (counted_as f.o bs f.count)
    where
      go : Counted f.o bs n → Left bs table w
      go (none z _) = absurd (omega arith)
      go (all u e m _) =
          let d = g.front f.o u e m in
          record { o = f.o; u = u; s = d.s; walks = d.walks; left = ((walk_law f.o bs e).left d.walks).1 (omega (arith, d.count)) }

  pub fill_on : {table' : List ℕ} {r : Walked} → i < length zs → Nexts bs table w table' r
      → Filling bs n (i + 1) table' r old (set zs i r.row)
  fill_on {table'} {r} l next = record { front = front; rest = rest }
    where
      front : (o : Options) (u : State) → reading o bs ≡ Ok u → length u.found ≡ n
          → Filled o bs u (i + 1) table' r (take (i + 1) (set zs i r.row))
      front o u e m =
          let d = g.front o u e m in
          let q = next o u d.s d.walks in
          record {
            s = q.next;
            walks = q.walks;
            count = ap length q.found ∙ length-append d.s.found (q.x ∷ []) ∙ ap (λ (k : ℕ). k + 1) d.count;
            are =
                ap (λ (k : ℕ). take k (set zs i r.row)) (add-one i) ∙ take-suc-set zs i r.row l
                ∙ ap₂ (λ (xs : List Row) (x : Row). xs ++ (x ∷ [])) d.are q.row
                ∙ sym (ap (map row_of) q.found ∙ map-append row_of d.s.found (q.x ∷ []));
          }

      rest : drop (i + 1) (set zs i r.row) ≡ drop (i + 1) old
      rest =
          let k : i < i + 1 = omega arith in
          drop-set-lt (i + 1) zs i r.row k ∙ sym (drop-drop 1 i zs) ∙ ap (drop 1) g.rest ∙ drop-drop 1 i old

  -- none is left
  pub fill_end : i ≤ n → n ≤ i → Fills bs n old zs
  fill_end a b o c = go (counted_as o bs c)
    where
      here : i ≡ n
      here = omega arith

      go : Counted o bs n → zs ≡ stored old (rows o bs)
      go (none z e) = let q : i ≡ 0 = omega arith in rw q at g.rest ∙ e old
      go (all u e m f) =
          let d = g.front o u e m in
          let v = walk_law o bs e in
          let p : d.s ≡ u = order (length bs) w.at (λ l. (v.last d.walks l).0)
          (λ l. let k = (v.left d.walks).0 l in absurd (omega (arith, d.count))) in
          sym (take-append-drop i zs)
          ∙ ap₂ (λ (xs ys : List Row). xs ++ ys) (d.are ∙ ap (λ (v : State). map row_of v.found) p) (g.rest
          ∙ ap (λ (k : ℕ). drop k old) here) ∙ f old

-- ---- the front of a table

-- Filled in the front they are filled in the table.
pub fills_front : (bs : List ℕ) (n : ℕ) (old : List Row) {zs : List Row} → Fills bs n (take n old) zs → Fills bs n old (zs ++ drop n old)
fills_front bs n old f o c = ap (λ (l : List Row). l ++ drop n old) (f o c) ∙ go (counted_as o bs c)
  where
    go : Counted o bs n → stored (take n old) (rows o bs) ++ drop n old ≡ stored old (rows o bs)
    go (none z e) = ap (λ (l : List Row). l ++ drop n old) (sym (e (take n old))) ∙ take-append-drop n old ∙ e old
    go (all u e m g) =
        let past : drop n (take n old) ≡ [] = drop_of_length-le (take n old) (omega (arith, length-take n old)) in
        ap (λ (l : List Row). l ++ drop n old)
        (sym (g (take n old)) ∙ ap (λ (l : List Row). map row_of u.found ++ l) past ∙ append-nil (map row_of u.found)) ∙ g old
