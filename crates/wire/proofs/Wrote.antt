-- Bytes that are being written into a list: n of them stand, the rest is to come, and what lies behind is as it was. Assumes nothing.
use mathlib.Core.Path.{◌≡◌, refl, ap, sym, subst, ◌∙◌}
use mathlib.Core.List.{List, [], ◌∷◌, ◌++◌, append_assoc, append-nil}
use Prim.Native.Nat.{ℕ, ◌+◌, ◌-◌, ◌≤◌, ◌<◌}
use native.Mathlib.Numerals.{add-one}
use native.Mathlib.Omega.{arith}
use lib.ListN.{length, take, drop, set, length-append, length-drop, length-set, take-append-drop, drop_of_length-le}
use lib.Seq.{take_all, take-suc-set, drop-set-lt, drop-drop, length-take-le, take-append_seam, take_at, drop_at}
use borrow.Rule.Slice.PartMut.{put_mid}

-- Of `whole`, n bytes stand at the start of l and `rest` is to come; l₀ was there before.
pub record Wrote (whole l₀ l : List ℕ) (n : ℕ) (rest : List ℕ) : Type 0 where
  pub front : take n l ++ rest ≡ whole
  pub back : drop n l ≡ drop n l₀
  pub long : length l ≡ length l₀

pub start : (w l : List ℕ) → Wrote w l l 0 w
start w l = record { front = refl; back = refl; long = refl }

module _ {w l₀ l : List ℕ} {n : ℕ} where
  -- one byte more
  pub byte : {b : ℕ} {rest : List ℕ} → Wrote w l₀ l n (b ∷ rest) → n < length l → Wrote w l₀ (set l n b) (n + 1) rest
  byte {b} {rest} h lt = record {
    front = rw (add-one, take-suc-set l n b lt, append_assoc) h.front;
    back = drop-set-lt (n + 1) l n b (omega arith) ∙ sym (drop-drop 1 n l) ∙ ap (λ (x : List ℕ). drop 1 x) h.back ∙ drop-drop 1 n l₀;
    long = length-set l n b ∙ h.long;
  }

  pub byte_as : {b : ℕ} {rest more : List ℕ} → Wrote w l₀ l n more → more ≡ b ∷ rest → n < length l → Wrote w l₀ (set l n b) (n + 1) rest
  byte_as h e lt = byte (subst (λ (x : List ℕ). Wrote w l₀ l n x) e h) lt

  -- how much is to come
  pub to_come : {rest : List ℕ} → Wrote w l₀ l n rest → n ≤ length l → n + length rest ≡ length w
  to_come {rest} h le = omega (arith, ap length h.front, length-append (take n l) rest, length-take-le n l le)

  -- all of it
  pub finish : Wrote w l₀ l n [] → n ≤ length l → (n ≡ length w) × (l ≡ w ++ drop (length w) l₀)
  finish h le =
      let e : n ≡ length w = omega (arith, to_come h le) in
      let f : take n l ≡ w = sym (append-nil (take n l)) ∙ h.front in
      (e, sym (take-append-drop n l) ∙ ap (λ (x : List ℕ). x ++ drop n l) f ∙ ap (λ (x : List ℕ). w ++ x) (h.back ∙ ap (λ (x : ℕ). drop x l₀) e))

  -- all of it, by the length before
  pub finish_all : Wrote w l₀ l n [] → n ≤ length l₀ → (n ≡ length w) × (l ≡ w ++ drop (length w) l₀)
  finish_all h le = finish h (omega (arith, h.long))

  -- what comes next fits where the whole fits
  pub fits : {more : List ℕ} (h rest : List ℕ) → Wrote w l₀ l n more → more ≡ h ++ rest → n ≤ length l → length w ≤ length l₀
      → n + length h ≤ length l
  fits h rest q e le capacity = omega (arith, to_come q le, q.long, ap length e ∙ length-append h rest)

  -- h was written at the start of the tail from n on
  pub part : (h : List ℕ) {rest : List ℕ} → Wrote w l₀ l n (h ++ rest) → n ≤ length l → length h ≤ length l - n
      → Wrote w l₀ (take n l ++ ((h ++ drop (length h) (drop n l)) ++ drop (length l - n) (drop n l))) (n + length h) rest
  part h {rest} q le capacity =
      let a : length (take n l) ≡ n = length-take-le n l le in
      let d : length (drop n l) ≡ length l - n = length-drop n l in
      let z : drop (length l - n) (drop n l) ≡ [] = drop_of_length-le (drop n l) {i = length l - n} (omega arith) in
      let e : length (take n l ++ h) ≡ n + length h = length-append (take n l) h ∙ ap (λ (x : ℕ). x + length h) a in
      let g : take n l ++ ((h ++ drop (length h) (drop n l)) ++ drop (length l - n) (drop n l)) ≡ (take n l ++ h)
      ++ drop (length h) (drop n l)
      = rw (z, append-nil (h ++ drop (length h) (drop n l)), append_assoc (take n l) h (drop (length h) (drop n l))) in
      rw g
      (record {
        front = rw (take_at (take n l ++ h) (drop (length h) (drop n l)) (n + length h) e, append_assoc) q.front;
        back = drop_at (take n l ++ h) (drop (length h) (drop n l)) (n + length h) e
            ∙ ap (λ (x : List ℕ). drop (length h) x) q.back ∙ drop-drop (length h) n l₀;
        long = length-append (take n l ++ h) (drop (length h) (drop n l)) ∙ omega (arith, e, d, length-drop (length h) (drop n l), q.long);
      })

-- ---- what a callee wrote into the tail

-- what a callee has of the tail is the tail
pub tail : (n : ℕ) (l : List ℕ) → take (length l - n) (drop n l) ≡ drop n l
tail n l = take_all (length l - n) (drop n l) (omega (arith, length-drop n l))

-- the tail from n on came back as ys, with h at its start
pub part_back : {w l₀ l more rest : List ℕ} {n : ℕ} (h ys : List ℕ) (r : ℕ) → Wrote w l₀ l n more → more ≡ h ++ rest
    → n ≤ length l → length w ≤ length l₀
    → r ≡ length h → ys ≡ h ++ drop (length h) (take (length l - n) (drop n l)) → Wrote w l₀ (put_mid n (length l - n) l ys) (n + r) rest
part_back {w} {l₀} {l} {more} {rest} {n} h ys r q e le capacity er ey =
    let m : n + length h ≤ length l = fits h rest q e le capacity in
    rw (er, ey, tail n l) (part h (subst (λ (x : List ℕ). Wrote w l₀ l n x) e q) le (omega arith))

-- ---- another start

-- h was written at once, and more is to come
pub wrote_front : (h rest l₀ l : List ℕ) (n : ℕ) → n ≡ length h → l ≡ h ++ drop (length h) l₀ → length h ≤ length l₀
    → Wrote (h ++ rest) l₀ l n rest
wrote_front h rest l₀ l n en el capacity =
    rw (en, el)
    (record {
      front = ap (λ (x : List ℕ). x ++ rest) (take-append_seam h (drop (length h) l₀));
      back = drop_at h (drop (length h) l₀) (length h) refl;
      long = length-append h (drop (length h) l₀) ∙ omega (arith, length-drop (length h) l₀);
    })

-- ---- one byte, and the rest through the tail

module _ (w l₀ h ys : List ℕ) (b r : ℕ) (ew : w ≡ b ∷ h) (capacity : length w ≤ length l₀) where
  pub byte_fits : length h ≤ length (take (length (set l₀ 0 b) - 1) (drop 1 (set l₀ 0 b)))
  byte_fits = rw (tail 1 (set l₀ 0 b), length-drop 1 (set l₀ 0 b), length-set l₀ 0 b) (omega (arith, ap length ew))

  pub byte_then : r ≡ length h → ys ≡ h ++ drop (length h) (take (length (set l₀ 0 b) - 1) (drop 1 (set l₀ 0 b)))
      → Wrote w l₀ (put_mid 1 (length (set l₀ 0 b) - 1) (set l₀ 0 b) ys) (1 + r) []
  byte_then er ey =
      let s = length-set l₀ 0 b in
      let e = ap length ew in
      part_back h ys r (byte_as (start w l₀) ew (omega arith)) (sym (append-nil h)) (omega arith) capacity er ey
