-- What a byte leads, and the bytes of a text one by one, with a count of the continuation bytes that are due. Assumes nothing.
use Rattle.std.specs.Prelude.{None, Some}
use mathlib.Core.Path.{◌≡◌, refl, ap, ◌∙◌}
use mathlib.Core.Logic.{⊎_elim, ◌≢◌}
use mathlib.Core.Bool.{Bool, true, false, ◌&&◌}
use mathlib.Core.List.{List, ◌∷◌}
use Prim.Native.Nat.{ℕ, zero, suc, ◌+◌, ◌-◌, ◌≤◌, ◌<◌}
use native.Mathlib.Nat.{eq-or-lt_of_le, le_of_suc-le-suc}
use native.Mathlib.Numerals.{add-one}
use native.Mathlib.Omega.{arith}
use lib.Dec.{leb, ltb, eqb, lit<, lit≤}
use lib.ListN.{length, drop, get_or, drop_of_length-le}
use lib.Seq.{drop-cons}
use Rattle.format.specs.Choice.{pick}
use Rattle.format.specs.Utf8.{within, leads, stop_after}
use Rattle.format.proofs.Tests.{and_no_left, and_no_right, and-true, and_yes, cases, leb_yes, leb_no, eqb-true, order}
use Rattle.format.proofs.Utf8.{due_after, fits, stop_here, stop-on}
use Rattle.utf8.specs.Local.{due, due_count, passes, lead_of}

-- ---- what each byte leads, by a test that is computed at all of them

every : (ℕ → Bool) → ℕ → Bool
every f zero = true
every f (suc n) = f n && every f n

every_at : (f : ℕ → Bool) (n : ℕ) → every f n ≡ true → (b : ℕ) → b < n → f b ≡ true
unfolding every
every_at f zero e b h = absurd (omega arith)
every_at f (suc n) e b h =
    ⊎_elim (λ q. rw q (and-true _ _ e).0) (λ l. every_at f n (and-true (f n) _ e).1 b l) (eq-or-lt_of_le (le_of_suc-le-suc h))

-- By the local rule, where no byte is before it.
by_rule : ℕ → Bool
by_rule b = pick (passes 0 0 0 b) (ltb (leads b) 4 && eqb (due_count 0 0 b) (leads b)) (eqb (leads b) 4)

table : every by_rule 256 ≡ true
unfolding every by_rule passes leads due_count due pick within
table = refl

module _ (b : ℕ) (h : 256 ≤ b) where
  above : (n : ℕ) → n ≤ 256 → leb n b ≡ true
  above n l = leb_yes {a = n} {b = b} (omega arith)

  not_below : (n : ℕ) → n < 256 → leb b n ≡ false
  not_below n l = leb_no {a = b} {b = n} (omega arith)

  rule_beyond : by_rule b ≡ true
  unfolding by_rule passes leads within due pick
  rule_beyond =
      rw (
        above 0x80 (lit≤ tt),
        above 0xc0 (lit≤ tt),
        above 0xc2 (lit≤ tt),
        above 0xe0 (lit≤ tt),
        above 0xf0 (lit≤ tt),
        above 0xf5 (lit≤ tt),
        not_below 0x7f (lit< tt),
        not_below 0xbf (lit< tt),
        not_below 0xc1 (lit< tt),
        not_below 0xdf (lit< tt),
        not_below 0xef (lit< tt),
        not_below 0xf4 (lit< tt),
      )

module _ (b : ℕ) where
  rule_at : by_rule b ≡ true
  rule_at = order 256 b (rule_beyond b) (every_at by_rule 256 table b)

  pub rule-passes : passes 0 0 0 b ≡ true → (ltb (leads b) 4 ≡ true) × (due_count 0 0 b ≡ leads b)
  unfolding by_rule pick
  rule-passes e =
      let h = and-true (ltb (leads b) 4) _ (rw e at rule_at) in (h.0, eqb-true (due_count 0 0 b) (leads b) h.1)

  pub rule_fails : passes 0 0 0 b ≡ false → leads b ≡ 4
  unfolding by_rule pick
  rule_fails e = eqb-true (leads b) 4 (rw e at rule_at)

  -- what `lead_of` says
  lead_is : (r : ℕ) → Some r ≡ lead_of b → (ltb (leads b) 4 ≡ true) × (leads b ≡ r)
  unfolding pick
  lead_is r e = cases (ltb (leads b) 4) (λ t. let g = rw t at e in (t, cc)) (λ f. let g = rw f at e in cc)

  leads-nothing : None ≡ lead_of b → ltb (leads b) 4 ≡ false
  unfolding pick
  leads-nothing e = cases (ltb (leads b) 4) (λ t. let g = rw t at e in cc) (λ f. f)

-- ---- the byte at i, where k continuation bytes are due

module _ (s : List ℕ) (i : ℕ) (h : i < length s) where
  abbrev b : ℕ
  b = get_or s i 0

  pub front : drop i s ≡ get_or s i 0 ∷ drop (i + 1) s
  front = rw (add-one, drop-cons s i 0 h)

  here : (k : ℕ) → stop_after k i (drop i s) ≡ stop_after k i (b ∷ drop (i + 1) s)
  here k = ap (stop_after k i) front

  -- none: the byte leads r of them, or nothing
  pub lead : (k r : ℕ) → k ≡ 0 → Some r ≡ lead_of (get_or s i 0) → stop_after k i (drop i s) ≡ stop_after r (i + 1) (drop (i + 1) s)
  unfolding fits due_after
  lead k r z q = let (few, e) = lead_is b r q in rw (z, ← e) (here 0 ∙ stop-on 0 b i _ few)

  pub no_lead : (k : ℕ) → k ≡ 0 → None ≡ lead_of (get_or s i 0) → stop_after k i (drop i s) ≡ Some i
  unfolding fits
  no_lead k z q = rw z (here 0 ∙ stop_here 0 b i _ (leads-nothing b q))

  -- some: it is one of them, or is not
  pub tail : (k : ℕ) → k ≢ 0 → 0x80 ≤ get_or s i 0 → get_or s i 0 ≤ 0xbf
      → stop_after k i (drop i s) ≡ stop_after (k - 1) (i + 1) (drop (i + 1) s)
  unfolding fits due_after within
  tail zero n l u = absurd (n refl)
  tail (suc k) n l u =
      let e : suc k - 1 ≡ k = omega arith in
      here (suc k) ∙ rw e (stop-on (suc k) b i _ (and_yes (leb_yes {a = 0x80} {b = b} l) (leb_yes {a = b} {b = 0xbf} u)))

  pub no_tail : (k : ℕ) → k ≢ 0 → (0x80 ≤ get_or s i 0 → 0xbf < get_or s i 0) → stop_after k i (drop i s) ≡ Some i
  unfolding fits within
  no_tail zero n f = absurd (n refl)
  no_tail (suc k) n f =
      here (suc k) ∙ stop_here (suc k) b i _
      (order 0x80 b (λ l. and_no_right (leb 0x80 b) (leb_no {a = b} {b = 0xbf} (f l)))
      (λ l. and_no_left _ (leb_no {a = 0x80} {b = b} l)))

-- ---- no byte is left

module _ (s : List ℕ) (i : ℕ) (h : length s ≤ i) where
  pub all_done : (k : ℕ) → k ≡ 0 → stop_after k i (drop i s) ≡ None
  unfolding stop_after
  all_done k z = rw (z, drop_of_length-le s h)

  pub too_early : (k : ℕ) → k ≢ 0 → stop_after k i (drop i s) ≡ Some i
  unfolding stop_after
  too_early zero n = absurd (n refl)
  too_early (suc k) n = rw (drop_of_length-le s h)
