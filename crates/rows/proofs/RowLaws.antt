-- One row: rule 9 by its kind, and its content. Assumes nothing.
use mathlib.Core.Path.{◌≡◌, ap, sym, ◌∙◌}
use mathlib.Core.Logic.{◌≢◌}
use mathlib.Core.Bool.{true, false, ◌&&◌, ◌||◌, and-true, or-true, or-false}
use mathlib.Core.List.{List}
use Prim.Native.Nat.{ℕ, ◌+◌, ◌-◌, ◌≤◌, ◌<◌}
use native.Mathlib.Omega.{arith}
use lib.Dec.{eqb, ltb, leb}
use lib.ListN.{length, take, drop, length-drop}
use lib.Seq.{length-take-le}
use Rattle.format.specs.declared.row.Row.{Row}
use Rattle.format.specs.Kind as Kind
use Rattle.format.specs.Limits.{max_bytes}
use Rattle.format.specs.Item.{has_content}
use Rattle.format.specs.Rows.{content_of}
use Rattle.format.specs.Writing.{is_bad}
use Rattle.format.specs.Header.{negative_alias}
use Rattle.format.proofs.Tests.{cases, clash, order, eqb_yes, eqb_no, eqb-true, leb_yes, leb-true, ltb_yes, ltb_no, ltb-false, or-false as neither, and_no_right, pick_yes}
use Rattle.rows.specs.Rules.{bad_number}

-- ---- a row with no start

pub row_is : (r : Row) (k : ℕ) → r.kind ≡ k → r.start ≡ 0 → ◌≡◌ {A = Row} (record { kind = k; number = r.number; start = 0 }) r
row_is r k e z = ap (λ k'. record { kind = k'; number = r.number; start = 0 }) (sym e)
    ∙ ap (λ s. record { kind = r.kind; number = r.number; start = s }) (sym z)

-- ---- kinds with content

module _ (k : ℕ) where
  pub content_five : k ≡ 5 → true ≡ has_content k
  unfolding has_content
  content_five e = rw (eqb_yes e)

  pub content-leb : k ≢ 5 → leb 9 k ≡ has_content k
  unfolding has_content
  content-leb e = rw (eqb_no e)

  pub content-text : 9 ≤ k → has_content k ≡ true
  unfolding has_content
  content-text l = rw (leb_yes l) (or-true (eqb k 5))

  pub content-none : has_content k ≡ false → k < 9
  content-none h = order 9 k (λ l. clash (content-text l) h) (λ l. l)

  pub content-kinds : has_content k ≡ true → (5 ≤ k) × ((k ≢ 7) × (k ≢ 8))
  content-kinds h =
      cases (eqb k 5)
      (λ e. let z = eqb-true k 5 e in (omega arith, (λ q. omega arith, λ q. omega arith)))
      (λ e. let z = leb-true 9 k (content-leb (λ q. clash (eqb_yes q) e) ∙ h) in (omega arith, (λ q. omega arith, λ q. omega arith)))

-- ---- rule 9

pub far : (len start number : ℕ) → len < start → true ≡ ltb len (start + number)
far len start number h = sym (ltb_yes {a = len} {b = start + number} (omega arith))

pub near : (len start number : ℕ) → start ≤ len → ltb (len - start) number ≡ ltb len (start + number)
near len start number h =
    order number (len - start)
    (λ l. ltb_no l ∙ sym (ltb_no {a = len} {b = start + number} (omega arith)))
    (λ l. ltb_yes l ∙ sym (ltb_yes {a = len} {b = start + number} (omega arith)))

module _ (k n : ℕ) where
  pub number-none : k < 3 → ltb 0 n ≡ bad_number k n
  unfolding bad_number
  number-none h = rw (ltb_yes h, eqb_no {a = k} {b = 3} (λ e. omega arith), eqb_no {a = k} {b = 7} (λ e. omega arith)) (simp or-false)

  pub number-single : k ≡ 3 → leb 4294967296 n ≡ bad_number k n
  unfolding bad_number
  number-single h = rw (ltb_no {a = k} {b = 3} (omega arith), eqb_yes h, eqb_no {a = k} {b = 7} (λ e. omega arith))
      (sym (or-false (leb 4294967296 n)))

  number-high : 5 ≤ k → bad_number k n ≡ eqb k 7 && eqb n negative_alias
  unfolding bad_number
  number-high h = rw (ltb_no {a = k} {b = 3} (omega arith), eqb_no {a = k} {b = 3} (λ e. omega arith))

  pub number_usual : 5 ≤ k → n ≢ negative_alias → false ≡ bad_number k n
  number_usual h e = sym (number-high h ∙ and_no_right (eqb k 7) (eqb_no e))

  pub number_least : 5 ≤ k → n ≡ negative_alias → eqb k 7 ≡ bad_number k n
  number_least h e = sym (number-high h ∙ ap (λ b. eqb k 7 && b) (eqb_yes e) ∙ and-true (eqb k 7))

  pub number-other : 3 ≤ k → k ≢ 3 → k ≢ 7 → false ≡ bad_number k n
  unfolding bad_number
  number-other h p q = rw (ltb_no h, eqb_no p, eqb_no q)

module _ (text : List ℕ) (r : Row) where
  -- with content: the kind, and the part
  pub bad-content : has_content r.kind ≡ true → is_bad text r ≡ ltb 11 r.kind || ltb (length text) (r.start + r.number)
  unfolding is_bad
  bad-content h =
      let (l, s) = content-kinds r.kind h in
      rw (h, ltb_no {a = r.kind} {b = 3} (omega arith), eqb_no {a = r.kind} {b = 3} (λ e. omega arith), eqb_no {a = r.kind} {b = 7} s.0) (simp or-false)

  -- with none: a start, or a number
  pub bad-start : has_content r.kind ≡ false → 0 < r.start → is_bad text r ≡ true
  unfolding is_bad
  bad-start h l = rw (h, ltb_yes l, or-true)

  pub bad-plain : r.kind ≤ Kind.key → has_content r.kind ≡ false → r.start ≡ 0 → is_bad text r ≡ bad_number r.kind r.number
  unfolding is_bad bad_number
  bad-plain l h z =
      rw (ltb_no {a = 11} {b = r.kind} l, h, ltb_no {a = 0} {b = r.start} (omega arith))
      (simp or-false)

  -- ---- a row that rule 9 lets pass

  module _ (fine : is_bad text r ≡ false) where
    pub kind-most : r.kind ≤ Kind.key
    unfolding is_bad
    kind-most = order r.kind 11 (λ l. l) (λ l. clash {b = is_bad text r} (rw (ltb_yes l)) fine)

    module _ (h : has_content r.kind ≡ true) where
      pub inside : r.start + r.number ≤ length text
      inside = ltb-false (length text) (r.start + r.number) (neither (ltb 11 r.kind) _ (sym (bad-content h) ∙ fine)).1

      pub content_part : take r.number (drop r.start text) ≡ content_of text r
      unfolding content_of
      content_part = sym (pick_yes _ _ h)

      pub content-length : length (content_of text r) ≡ r.number
      content-length =
          ap length (sym content_part)
          ∙ length-take-le r.number (drop r.start text) (omega (arith, length-drop r.start text, inside))

      -- it ends where a text may end
      pub content-end : {part : List ℕ} → part ≡ content_of text r → length text ≤ max_bytes
          → r.start + length part ≤ max_bytes
      content-end e short = omega (arith, ap length e, content-length, inside)
