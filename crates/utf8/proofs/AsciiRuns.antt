-- Runs of ASCII, byte by byte, and what one says of UTF-8 and of the local rule. Assumes nothing.
use Rattle.std.specs.Prelude.{is_none}
use mathlib.Core.Path.{◌≡◌, refl, ap, ◌∙◌}
use mathlib.Core.Bool.{Bool, true, false, ◌&&◌}
use mathlib.Core.List.{List, [], ◌∷◌}
use Prim.Native.Nat.{ℕ, zero, suc, ◌+◌, ◌-◌, ◌*◌, ◌≤◌, ◌<◌}
use native.Mathlib.Omega.{arith}
use native.Mathlib.Numerals.{add-one}
use lib.ListN.{length, take, drop, get_or, length-drop}
use lib.Seq.{get_or-drop, get_or-take, length-take-le, drop-drop, take_all}
use lib.Dec.{ltb}
use borrow.Author.Tests.{ltb-true}
use Rattle.format.specs.Choice.{pick}
use Rattle.format.specs.Utf8.{leads, stop, stop_after, utf8}
use Rattle.format.proofs.Utf8.{due_after, fits, good-step}
use Rattle.format.proofs.Tests.{clash, order, leb_yes, leb_no}
use Rattle.utf8.specs.Local.{due, passes, passes_at, Passing, Ascii}
use Rattle.utf8.proofs.LeadBytes.{lead}
use Rattle.utf8.proofs.Ranges.{one_more, joined}

pub ascii_more : (s : List ℕ) (i : ℕ) (b : Bool) → (b ≡ true → Ascii s 0 i) → b && ltb (get_or s i 0) 0x7f ≡ true → Ascii s 0 (i + 1)
ascii_more s i true f h k l u =
    let p : get_or s i 0 < 0x80 = omega (arith, ltb-true (get_or s i 0) 0x7f h) in
    one_more (λ i. get_or s i 0 < 0x80) 0 i (f refl) p k l u
ascii_more s i false f h k l u = clash h refl

ascii-leads : (b : ℕ) → b < 0x80 → leads b ≡ 0
unfolding leads pick
ascii-leads b h = rw (leb_yes {a = b} {b = 0x7f} (omega arith))

good_from_lem : (i : ℕ) (s : List ℕ) → Ascii s 0 (length s) → is_none (stop_after 0 i s) ≡ true
unfolding stop_after fits due_after
good_from_lem i [] f = refl
good_from_lem i (b ∷ bs) f =
    good-step 0 b i bs ∙ rw (ascii-leads b (f 0 (omega arith) (omega arith)))
    (good_from_lem (i + 1) bs (λ j l u. f (suc j) (omega arith) (omega arith)))

pub ascii-good : (s : List ℕ) → Ascii s 0 (length s) → utf8 s ≡ true
unfolding utf8 stop
ascii-good s f = good_from_lem 0 s f

-- ASCII in a part of the bytes
pub ascii_part : (s : List ℕ) (a n : ℕ) → a + n ≤ length s → Ascii (take n (drop a s)) 0 (length (take n (drop a s))) → Ascii s a (a + n)
ascii_part s a n h f i l u =
    let long : length (take n (drop a s)) ≡ n = length-take-le n (drop a s) (omega (arith, length-drop a s)) in
    let e : a + (i - a) ≡ i = omega arith in
    rw (get_or-take n (drop a s) (i - a) 0 (omega arith), get_or-drop a s (i - a) 0, e) at (f (i - a) (omega arith) (omega arith))

-- The first k bytes and the last k are all.
pub ends-good : (s : List ℕ) (k : ℕ) → k ≤ length s → length s ≤ 2 * k → Ascii (take k s) 0 (length (take k s))
    → Ascii (take (length s - (length s - k)) (drop (length s - k) s)) 0 (length (take (length s - (length s - k)) (drop (length s - k) s)))
    → utf8 s ≡ true
ends-good s k l h f g =
    let first = ascii_part s 0 k (omega arith) f in
    let e : length s - k + (length s - (length s - k)) ≡ length s = omega arith in
    let last = ascii_part s (length s - k) (length s - (length s - k)) (omega arith) g in
    ascii-good s (rw e at (joined (λ i. get_or s i 0 < 0x80) 0 (0 + k) (length s - k) _ (omega arith) first last))

module _ (s : List ℕ) where
  -- windows of ASCII pass
  pub ascii_passing : (e : ℕ) → Ascii s 0 (e + 3) → Passing s 0 e
  unfolding passes_at passes due
  ascii_passing e f i l u =
      let h3 = f i (omega arith) (omega arith) in
      let h2 = f (i + 1) (omega arith) (omega arith) in
      let h1 = f (i + 2) (omega arith) (omega arith) in
      let h = f (i + 3) (omega arith) (omega arith) in
      rw (
        leb_no {a = 0xc0} {b = get_or s (i + 2) 0} (omega arith),
        leb_no {a = 0xe0} {b = get_or s (i + 1) 0} (omega arith),
        leb_no {a = 0xf0} {b = get_or s i 0} (omega arith),
        leb_no {a = 0x80} {b = get_or s (i + 3) 0} h,
        leb_no {a = 0xc0} {b = get_or s (i + 3) 0} (omega arith),
        leb_no {a = 0xf5} {b = get_or s (i + 3) 0} (omega arith),
      )

  -- the first three bytes, and n after them
  pub windows_ascii : (n : ℕ) → 3 ≤ length s → n ≤ length (take (length s - 3) (drop 3 s)) → Ascii (take 3 s) 0 (length (take 3 s))
      → Ascii (take (length s - 3) (drop 3 s)) 0 n → Passing s 0 n
  windows_ascii n h l f g =
      let first = ascii_part s 0 3 h f in
      let rest : take (length s - 3) (drop 3 s) ≡ drop 3 s = take_all (length s - 3) (drop 3 s) (omega (arith, length-drop 3 s)) in
      ascii_passing n (λ i l u. order 3 i
      (λ m. let e : 3 + (i - 3) ≡ i = omega arith in rw (rest, get_or-drop 3 s (i - 3) 0, e) at (g (i - 3) (omega arith) (omega arith)))
      (λ m. first i l (omega arith)))

  -- one run after another
  pub ascii-on : (a i e : ℕ) → Ascii s a i → Ascii s i e → Ascii s a e
  ascii-on a i e f g = joined (λ k. get_or s k 0 < 0x80) a i i e (omega arith) f g

  -- a run at the front leaves the place to what comes after it
  pub ascii-stop : (n : ℕ) → n ≤ length s → Ascii s 0 n → stop s ≡ stop_after 0 n (drop n s)
  unfolding stop pick
  ascii-stop zero l f = refl
  ascii-stop (suc n) l f =
      let b = ascii-leads (get_or s n 0) (f n (omega arith) (omega arith)) in
      ascii-stop n (omega arith) (λ i a u. f i a (omega arith))
      ∙ rw (← add-one n) (lead s n (omega arith) 0 0 refl (rw b))

-- ---- steps from the front

-- The bytes of s before the rest are ASCII.
pub record Front (s rest : List ℕ) : Type 0 where
  pub long : length rest ≤ length s
  pub is : rest ≡ drop (length s - length rest) s
  pub ascii : Ascii s 0 (length s - length rest)

pub front_more : (s rest step more : List ℕ) (n : ℕ) → Front s rest → step ≡ take n rest → more ≡ drop n rest → length more + n ≡ length rest
    → Ascii step 0 (length step) → Front s more
front_more s rest step more n f es em el g =
    let i = length s - length rest in
    let e : length s - length more ≡ i + n = omega (arith, f.long) in
    let part : Ascii (take n (drop i s)) 0 (length (take n (drop i s))) = rw (es, f.is) at g in
    record {
      long = omega (arith, f.long);
      is = rw e (em ∙ ap (λ x. drop n x) f.is ∙ drop-drop n i s);
      ascii = rw e (ascii-on s 0 i (i + n) f.ascii (ascii_part s i n (omega (arith, f.long)) part));
    }
