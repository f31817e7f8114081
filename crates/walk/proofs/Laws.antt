-- The law of the walk. Assumes nothing.
use Rattle.std.specs.Prelude.{Some, slice_get, Ok}
use mathlib.Core.Path.{◌≡◌, refl, sym, ap, ◌∙◌}
use mathlib.Core.Logic.{◌↔◌}
use mathlib.Core.List.{List, [], ◌∷◌, ◌++◌, map, append_assoc}
use Prim.Native.Nat.{ℕ, ◌+◌, ◌≤◌, ◌<◌}
use native.Mathlib.Omega.{arith}
use lib.ListN.{length, length-append}
use Rattle.format.specs.Limits.{max_entries}
use Rattle.format.specs.Reading.{Found, Options, State, reading, start}
use Rattle.format.specs.Rows.{row_of}
use Rattle.format.proofs.Tests.{order}
use Rattle.format.proofs.Steps.{reads-run}
use Rattle.format.proofs.ReadBack.{reading-reads}
use Rattle.format.proofs.Turns.{all_read, found_first}
use Rattle.symbols.specs.Entries.{entries_of}
use Rattle.walk.specs.declared.Walked.{Walked}
use Rattle.walk.specs.Walking.{begin, Walks, Onward}
use Rattle.walk.specs.Laws.{Calls, Called, WalkLaw, none, more}

row_at : (xs ys : List Found) (x : Found) → slice_get (map row_of (xs ++ (x ∷ ys))) (length xs) ≡ Some (row_of x)
row_at [] ys x = refl
row_at (y ∷ xs) ys x = row_at xs ys x

module _ {o : Options} {bs : List ℕ} {u : State} where
  next_row : {s : State} {table : List ℕ} {w r : Walked} → Onward o bs u s table w r
      → slice_get (map row_of u.found) (length s.found) ≡ Some r.row
  next_row {s} q =
      let (xs, e, _) = found_first o bs q.next q.walks.reads in
      let f : u.found ≡ s.found ++ (q.x ∷ xs) = e ∙ ap (λ (l : List Found). l ++ xs) q.found
      ∙ append_assoc s.found (q.x ∷ []) xs in
      ap (λ (l : List Found). slice_get (map row_of l) (length s.found)) f ∙ row_at s.found xs q.x ∙ ap Some (sym q.row)

  module _ {s : State} {table : List ℕ} {w : Walked} (p : Walks o bs u s table w) where
    at-end : length bs ≤ w.at → (s ≡ u) × (w.at ≡ length bs)
    at-end l = (all_read o bs s p.reads (omega (arith, p.offset)), omega (arith, p.within))

    still_left : (w.at < length bs) ↔ (length s.found < length u.found)
    still_left =
        let (xs, e, m) = found_first o bs s p.reads in
        let n : length u.found ≡ length s.found + length xs = ap length e ∙ length-append s.found xs in (
          λ l. omega (arith, m (omega (arith, p.offset))),
          λ l. order (length bs) w.at (λ k. let z = ap (λ (v : State). length v.found) (at-end k).0 in
              absurd (omega arith)) (λ k. k),
        )

    at_last : length s.found ≡ length u.found → w.at ≡ length bs
    at_last e = order (length bs) w.at (λ l. (at-end l).1) (λ l. let k = still_left.0 l in absurd (omega arith))

pub walk_law : (o : Options) (bs : List ℕ) {u : State} → reading o bs ≡ Ok u → WalkLaw o bs u
unfolding start entries_of
walk_law o bs {u} r = record { first = first; row = next_row; left = still_left; last = at-end; calls = calls }
  where
    first : (table : List ℕ) → length table ≡ max_entries → Walks o bs u start table begin
    first table size =
        let (short, reads) = reading-reads {o = o} bs r in
        record {
          short = short;
          reads = reads-run reads;
          offset = refl;
          within = omega arith;
          size = size;
          few = omega arith;
          entries = refl;
        }

    calls : {i : ℕ} {table : List ℕ} {w : Walked} → Calls bs i table w → Called o bs u i table w
    calls (none {table = table}
        size) = record {
          s = start;
          walks = first table size;
          count = refl;
          row = λ k e. absurd (omega arith);
          end = λ e. at_last (first table size) e;
        }
    calls (more {i = i} c n) =
        let q = calls c in
        let t = n o u q.s q.walks in
        let m : length t.next.found ≡ i + 1 = ap length t.found ∙ length-append q.s.found (t.x ∷ [])
        ∙ ap (λ (k : ℕ). k + 1) q.count in
        record {
          s = t.next;
          walks = t.walks;
          count = m;
          row = λ k e. let z : length q.s.found ≡ k = omega (arith, q.count) in rw z at (next_row t);
          end = λ e. at_last t.walks (m ∙ e);
        }
