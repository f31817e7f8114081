-- The local rule decides UTF-8: each byte passes by the three before it, and none is due at the end. Assumes nothing.
use mathlib.Core.Path.{◌≡◌, refl, sym, ap, ◌∙◌}
use mathlib.Core.Bool.{Bool, true, false, not, ◌&&◌, ◌||◌, and_assoc, and-false, or-false}
use mathlib.Core.List.{List, [], ◌∷◌}
use Prim.Native.Nat.{ℕ, zero, suc, ◌+◌, ◌-◌, ◌≤◌, ◌<◌}
use native.Mathlib.Omega.{arith}
use lib.Dec.{leb}
use lib.ListN.{length, take, drop, get_or, length-drop, drop_of_length-le}
use lib.Seq.{drop-drop, get_or-drop, get_or-take, length-take-le}
use Rattle.format.specs.Choice.{pick}
use Rattle.format.specs.Utf8.{stop, stop_after, utf8, within}
use Rattle.format.proofs.Tests.{equal, and-true, cases, clash, leb_no, leb-true, leb-false, or-false as neither}
use Rattle.format.proofs.Utf8.{due_after, fits, good-step}
use Rattle.utf8.specs.Local.{due, due_count, passes, passes_at, Passing, good_after, good_from, Checked, Judged}
use Rattle.utf8.proofs.LeadBytes.{front, rule-passes, rule_fails}
use Rattle.utf8.proofs.Ranges.{joined}

regroup : (a b c d : Bool) → a && (b && (c && d)) ≡ (a && b && c && d)
regroup true b c d = sym (and_assoc b c d)
regroup false b c d = refl

-- ---- one byte after three

-- One continuation byte less is due after one.
one_less : (f t : Bool) → pick f 3 (pick t 2 (pick true 1 0)) ≡ suc (pick f 2 (pick t 1 0))
unfolding pick
one_less true t = refl
one_less false true = refl
one_less false false = refl

module _ (p3 p2 p1 b i : ℕ) (bs : List ℕ) where
  count-due : due p3 p2 p1 ≡ true → due_count p3 p2 p1 ≡ suc (pick (leb 0xf0 p1) 2 (pick (leb 0xe0 p1 || leb 0xf0 p2) 1 0))
  unfolding due_count
  count-due e = rw e (one_less (leb 0xf0 p1) (leb 0xe0 p1 || leb 0xf0 p2))

  count_next : leb b 0xbf ≡ true → due_count p2 p1 b ≡ pick (leb 0xf0 p1) 2 (pick (leb 0xe0 p1 || leb 0xf0 p2) 1 0)
  unfolding due_count due pick
  count_next e =
      let h : b ≤ 0xbf = leb-true b 0xbf e in
      rw (leb_no {a = 0xf0} {b = b} (omega arith), leb_no {a = 0xe0} {b = b} (omega arith), leb_no {a = 0xc0} {b = b} (omega arith))

  step-due : due p3 p2 p1 ≡ true
      → good_after (due_count p3 p2 p1) i (b ∷ bs) ≡ (passes p3 p2 p1 b && good_after (due_count p2 p1 b) (i + 1) bs)
  unfolding fits due_after passes within
  step-due e =
      good-step (due_count p3 p2 p1) b i bs ∙ rw (count-due e, e)
      (cases (leb 0x80 b && leb b 0xbf)
      (λ q. let h = (and-true (leb 0x80 b) _ q).1 in let l : b ≤ 0xbf = leb-true b 0xbf h in
      rw (q, count_next h, leb_no {a = 0xc0} {b = b} (omega arith), leb_no {a = 0xf5} {b = b} (omega arith)))
      (λ q. rw q))

  -- nothing of the three bytes counts
  module _ (e : due p3 p2 p1 ≡ false) where
    low1 : p1 < 0xc0
    unfolding due
    low1 = leb-false 0xc0 p1 (neither _ _ (neither _ (leb 0xf0 p3) e).0).0

    low2 : p2 < 0xe0
    unfolding due
    low2 = leb-false 0xe0 p2 (neither (leb 0xc0 p1) _ (neither _ (leb 0xf0 p3) e).0).1

    high-none : (leb 0xf0 p1 ≡ false) × (leb 0xe0 p1 ≡ false) × (leb 0xf0 p2 ≡ false)
    high-none = let h1 = low1 in let h2 = low2 in
        (leb_no {a = 0xf0} {b = p1} (omega arith), leb_no {a = 0xe0} {b = p1} (omega arith), leb_no {a = 0xf0} {b = p2} (omega arith))

    count_none : due_count p3 p2 p1 ≡ 0
    unfolding due_count pick
    count_none = let h = high-none in rw (e, h.0, h.1, h.2)

    count_lead : due_count p2 p1 b ≡ due_count 0 0 b
    unfolding due_count due
    count_lead = let h = high-none in rw (h.0, h.1, h.2, or-false (leb 0xe0 b), or-false (leb 0xc0 b))

    passes_lead : passes p3 p2 p1 b ≡ passes 0 0 0 b
    unfolding passes due
    passes_lead = rw e

    step-none : good_after (due_count p3 p2 p1) i (b ∷ bs) ≡ (passes p3 p2 p1 b && good_after (due_count p2 p1 b) (i + 1) bs)
    unfolding fits due_after
    step-none =
        good-step (due_count p3 p2 p1) b i bs ∙ rw (count_none, passes_lead, count_lead)
        (cases (passes 0 0 0 b) (λ q. let h = rule-passes b q in rw (q, h.0, h.1)) (λ q. rw (q, rule_fails b q)))

  step : good_after (due_count p3 p2 p1) i (b ∷ bs) ≡ (passes p3 p2 p1 b && good_after (due_count p2 p1 b) (i + 1) bs)
  step = cases (due p3 p2 p1) step-due step-none

  end : good_after (due_count p3 p2 p1) i [] ≡ not (due p3 p2 p1)
  unfolding stop_after
  end = cases (due p3 p2 p1) (λ e. rw (count-due e, e)) (λ e. rw (count_none e, e))

-- ---- bytes by position

module _ (p3 p2 p1 : ℕ) (s : List ℕ) (i : ℕ) where
  byte : i < length s
      → good_after (due_count p3 p2 p1) i (drop i s) ≡ (passes p3 p2 p1 (get_or s i 0)
      && good_after (due_count p2 p1 (get_or s i 0)) (i + 1) (drop (i + 1) s))
  byte h = ap (good_after (due_count p3 p2 p1) i) (front s i h) ∙ step p3 p2 p1 (get_or s i 0) i (drop (i + 1) s)

  over : length s ≤ i → good_after (due_count p3 p2 p1) i (drop i s) ≡ not (due p3 p2 p1)
  over h = rw (drop_of_length-le s h) (end p3 p2 p1 0 i [])

-- ---- windows

module _ (s : List ℕ) where
  window : (i : ℕ) → i + 3 < length s → good_from s i ≡ (passes_at s i && good_from s (i + 1))
  unfolding good_from passes_at
  window i h =
      let e1 : i + 1 + 1 ≡ i + 2 = omega arith in
      let e2 : i + 1 + 2 ≡ i + 3 = omega arith in
      let e3 : i + 1 + 3 ≡ i + 3 + 1 = omega arith in
      rw (e1, e2, e3) (byte _ _ _ s (i + 3) h)

  -- windows that pass change nothing
  passed_on : (n a e : ℕ) → a + n ≡ e → e + 3 ≤ length s → Passing s a e → good_from s a ≡ good_from s e
  passed_on zero a e q h f = let z : a ≡ e = omega arith in rw z
  passed_on (suc n) a e q h f =
      window a (omega arith) ∙ rw (f a (omega arith) (omega arith)) (passed_on n (a + 1) e (omega arith) h (λ i l u. f i (omega arith) u))

  pub passed : (i e : ℕ) → e ≤ i → e + 3 ≤ length s → Passing s 0 i → good_from s 0 ≡ good_from s e
  passed i e l h f = passed_on e 0 e (omega arith) h (λ k b u. f k b (omega arith))

  -- one that fails decides
  failed : (n a i : ℕ) → a + n ≡ i → i + 3 < length s → passes_at s i ≡ false → good_from s a ≡ false
  failed zero a i q h p = let z : a ≡ i = omega arith in window a (omega arith) ∙ rw (z, p)
  failed (suc n) a i q h p = window a (omega arith) ∙ rw (failed n (a + 1) i (omega arith) h p) (and-false (passes_at s a))

  -- a window in a part of the bytes
  window_at : (a m i : ℕ) → i + 3 < m → passes_at (take m (drop a s)) i ≡ passes_at s (a + i)
  unfolding passes_at
  window_at a m i h =
      let e1 : a + (i + 1) ≡ a + i + 1 = omega arith in
      let e2 : a + (i + 2) ≡ a + i + 2 = omega arith in
      let e3 : a + (i + 3) ≡ a + i + 3 = omega arith in
      rw (
        get_or-take m (drop a s) i 0 (omega arith),
        get_or-take m (drop a s) (i + 1) 0 (omega arith),
        get_or-take m (drop a s) (i + 2) 0 (omega arith),
        get_or-take m (drop a s) (i + 3) 0 h,
        get_or-drop a s i 0,
        get_or-drop a s (i + 1) 0,
        get_or-drop a s (i + 2) 0,
        get_or-drop a s (i + 3) 0,
        e1,
        e2,
        e3,
      )

  -- what the windows of a block were found to be, in all bytes
  pub checked : (a n m : ℕ) (r : Bool) → m ≡ n + 3 → a + n + 3 ≤ length s → Judged (take m (drop a s)) r → Checked s a (a + n) r
  checked a n m r q h j =
      let long : length (take m (drop a s)) ≡ m = length-take-le m (drop a s) (omega (arith, length-drop a s)) in (
        (λ t i l u. let e : a + (i - a) ≡ i = omega arith in
            rw (window_at a m (i - a) (omega arith), e) at (j.0 t (i - a) (omega arith))),
        (λ f. let (i, u, w) = j.1 f in
            failed i a (a + i) refl (omega arith) (sym (window_at a m i (omega arith)) ∙ w)),
      )

  -- the first three bytes
  pub started : 3 ≤ length s
      → utf8 s ≡ (passes 0 0 0 (get_or s 0 0) && passes 0 0 (get_or s 0 0) (get_or s 1 0)
      && passes 0 (get_or s 0 0) (get_or s 1 0) (get_or s 2 0) && good_from s 0)
  unfolding utf8 stop good_from due_count due pick
  started h =
      let x = get_or s 0 0 in
      let y = get_or s 1 0 in
      byte 0 0 0 s 0 (omega arith) ∙ rw (byte 0 0 x s 1 (omega arith), byte 0 x y s 2 (omega arith))
      (regroup (passes 0 0 0 x) (passes 0 0 x y) (passes 0 x y (get_or s 2 0)) _)

  -- a block that starts among windows that passed
  pub onward : (i a e : ℕ) → a ≤ i → Passing s 0 i → Passing s a e → Passing s 0 e
  onward i a e h f g = joined (λ k. passes_at s k ≡ true) 0 i a e h f g

  -- the last three bytes
  pub ended : 3 ≤ length s
      → good_from s (length s - 3) ≡ not (due (get_or s (length s - 3) 0) (get_or s (length s - 2) 0) (get_or s (length s - 1) 0))
  unfolding good_from
  ended h =
      let e1 : length s - 3 + 1 ≡ length s - 2 = omega arith in
      let e2 : length s - 3 + 2 ≡ length s - 1 = omega arith in
      rw (e1, e2) (over _ _ _ s (length s - 3 + 3) (omega arith))

-- ---- the windows of a block, one by one: of xs, r is left

pub record Judging (xs r : List ℕ) (pass : Bool) : Type 0 where
  pub long : length r ≤ length xs
  pub is : r ≡ drop (length xs - length r) xs
  pub yes : pass ≡ true → (i : ℕ) → i < length xs - length r → passes_at xs i ≡ true
  pub no : pass ≡ false → (i : ℕ) × (i + 3 < length xs) × (passes_at xs i ≡ false)

pub judging : (xs : List ℕ) → Judging xs xs true
judging xs =
    let z : length xs - length xs ≡ 0 = omega arith in
    record { long = omega arith; is = rw z; yes = λ _ i l. absurd (omega arith); no = λ e. clash refl e }

module _ (xs r w r' : List ℕ) (b : Bool) (four : 4 ≤ length r) (ew : w ≡ take 4 r) (er : r' ≡ drop 1 r)
    (eb : b ≡ passes (get_or w 0 0) (get_or w 1 0) (get_or w 2 0) (get_or w 3 0)) where
  here : length r ≤ length xs → r ≡ drop (length xs - length r) xs → b ≡ passes_at xs (length xs - length r)
  unfolding passes_at
  here l e =
      let i = length xs - length r in
      let w0 : passes_at w 0 ≡ passes_at (take 4 (drop i xs)) 0 = ap (λ x. passes_at x 0) (ew ∙ ap (take 4) e) in
      let z : i + 0 ≡ i = omega arith in
      let q : b ≡ passes_at w 0 = eb in
      q ∙ w0 ∙ window_at xs i 4 0 (omega arith) ∙ rw z

  pub judge_more : (pass : Bool) → Judging xs r pass → Judging xs r' (pass && b)
  judge_more pass g =
      let i = length xs - length r in
      let n : length r' + 1 ≡ length r = omega (arith, ap length er, length-drop 1 r) in
      let e : length xs - length r' ≡ i + 1 = omega (arith, g.long) in
      let q = here g.long g.is in
      record {
        long = omega (arith, g.long);
        is = rw e (er ∙ ap (λ x. drop 1 x) g.is ∙ drop-drop 1 i xs);
        yes = λ t k l. let (p, c) = and-true pass b t in
            equal k i (λ z. rw z (sym q ∙ c)) (λ z. g.yes p k (omega arith));
        no = λ f. cases pass
            (λ p. (i, omega (arith, g.long), sym q ∙ rw p at f))
            (λ p. g.no p);
      }

pub judged : (xs r : List ℕ) (pass : Bool) → Judging xs r pass → length r < 4 → Judged xs pass
judged xs r pass g l = ((λ t i u. g.yes t i (omega arith)), g.no)
