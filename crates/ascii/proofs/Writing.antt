-- Parts written one after the other into a buffer that takes them all. Assumes nothing.
use mathlib.Core.Path.{◌≡◌, refl, sym, ap, subst, ◌∙◌}
use mathlib.Core.List.{List, [], ◌∷◌, flatten}
use Prim.Native.Nat.{ℕ, ◌+◌, ◌-◌, ◌≤◌}
use native.Mathlib.Omega.{arith}
use lib.ListN.{length, take, drop, set, length-append, length-drop, length-set}
use lib.Seq.{drop-drop}
use borrow.Rule.Slice.PartMut.{put_mid}
use Rattle.wire.proofs.Wrote.{Wrote, start as begin, byte, finish, part_back, tail, to_come, wrote_front}
use Rattle.wire.specs.Output.{Puts}

-- Of `whole`, n bytes stand at the start of l and the parts ps are to come; l₀ was there before.
pub record Stage (whole l₀ l : List ℕ) (n : ℕ) (ps : List (List ℕ)) : Type 0 where
  pub wrote : Wrote whole l₀ l n (flatten ps)
  pub inside : n + length (flatten ps) ≤ length l
  pub capacity : length whole ≤ length l₀

staged : {w l₀ l : List ℕ} {n : ℕ} {ps : List (List ℕ)} → Wrote w l₀ l n (flatten ps) → n ≤ length l
    → length w ≤ length l₀ → Stage w l₀ l n ps
staged q le capacity = record { wrote = q; inside = omega (arith, to_come q le, q.long); capacity = capacity }

-- nothing is written yet
pub start : (ps : List (List ℕ)) (l : List ℕ) → length (flatten ps) ≤ length l → Stage (flatten ps) l l 0 ps
start ps l capacity = staged (begin (flatten ps) l) (omega arith) capacity

module _ {w l₀ l h : List ℕ} {n : ℕ} {ps : List (List ℕ)} (q : Stage w l₀ l n (h ∷ ps)) where
  pub room : n + length h ≤ length l
  unfolding flatten
  room = omega (arith, q.inside, length-append h (flatten ps))

  -- the next part fits into the tail
  pub fits : length h ≤ length (take (length l - n) (drop n l))
  fits = rw (tail n l, length-drop n l) (omega (arith, room))

  -- it was written there
  pub next : (ys : List ℕ) (r : ℕ) → Puts h r (take (length l - n) (drop n l)) ys → Stage w l₀ (put_mid n (length l - n) l ys) (n + r) ps
  unfolding flatten
  next ys r p =
      let o = part_back h ys r q.wrote refl (omega (arith, room)) q.capacity p.0 p.1 in
      staged o (omega (arith, o.long, q.wrote.long, room, p.0)) q.capacity

-- the first part was written
module _ (h : List ℕ) (ps : List (List ℕ)) (l₀ : List ℕ) (capacity : length (flatten (h ∷ ps)) ≤ length l₀) where
  pub first_fits : length h ≤ length l₀
  first_fits = omega (arith, room (start (h ∷ ps) l₀ capacity))

  pub first : (l : List ℕ) (n : ℕ) → Puts h n l₀ l → Stage (flatten (h ∷ ps)) l₀ l n ps
  unfolding flatten
  first l n p = let o = wrote_front h (flatten ps) l₀ l n p.0 p.1 first_fits in
      staged o (omega (arith, o.long, first_fits, p.0)) capacity

-- the next byte was written
pub next_byte : {w l₀ l : List ℕ} {n b : ℕ} {ps : List (List ℕ)} → Stage w l₀ l n ((b ∷ []) ∷ ps) → Stage w l₀ (set l n b) (n + 1) ps
unfolding flatten
next_byte {l = l} {n} {b} q = staged (byte q.wrote (omega (arith, room q))) (omega (arith, room q, length-set l n b)) q.capacity

-- all is written
pub ends : {w l₀ l : List ℕ} {n : ℕ} → Stage w l₀ l n [] → Puts w n l₀ l
unfolding flatten
ends q = finish q.wrote (omega (arith, q.inside))

-- ---- from one buffer to the next

-- the same, of the buffer as it is now
pub afresh : {w l₀ l : List ℕ} {n : ℕ} {ps : List (List ℕ)} → Stage w l₀ l n ps → Stage w l l n ps
afresh q = record {
  wrote = record { front = q.wrote.front; back = refl; long = refl };
  inside = q.inside;
  capacity = omega (arith, q.capacity, q.wrote.long);
}

-- what was written of a buffer that had been written to n' bytes
pub since : {w l₀ l l' : List ℕ} {n n' : ℕ} {ps ps' : List (List ℕ)} → Stage w l₀ l n ps → Stage w l l' n' ps' → n ≤ n'
    → Stage w l₀ l' n' ps'
since {l₀ = l₀} {l} {l'} {n} {n'} q q' le =
    let e : n + (n' - n) ≡ n' = omega arith in
    let back : drop n' l ≡ drop n' l₀ = subst (λ (m : ℕ). drop m l ≡ drop m l₀) e (sym (drop-drop (n' - n) n l)
    ∙ ap (drop (n' - n)) q.wrote.back ∙ drop-drop (n' - n) n l₀) in
    record {
      wrote = record {
        front = q'.wrote.front;
        back = q'.wrote.back ∙ back;
        long = q'.wrote.long ∙ q.wrote.long;
      };
      inside = q'.inside;
      capacity = q.capacity;
    }
