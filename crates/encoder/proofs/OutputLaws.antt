-- Items as they are written: in a lead byte, by a reference, and at an offset. Assumes nothing.
use mathlib.Core.Path.{◌≡◌, ap, sym, ◌∙◌}
use mathlib.Core.List.{List, [], ◌++◌, append-nil}
use Prim.Native.Nat.{ℕ, ◌+◌, ◌-◌, ◌≤◌, ◌<◌}
use native.Mathlib.Omega.{arith}
use lib.ListN.{length, take, drop, set, length-drop, drop_of_length-le}
use lib.Seq.{drop-drop}
use borrow.Rule.Slice.PartMut.{put_mid}
use Rattle.format.specs.Header.{header, digits, following}
use Rattle.format.specs.Item.{Item}
use Rattle.format.specs.Canonical.{full}
use Rattle.format.proofs.Tests.{ltb_yes, ltb_no, pick_yes, pick_no}
use Rattle.format.proofs.Numbers.{length_digits}
use Rattle.wire.proofs.Wrote.{Wrote, start, byte_as, finish_all, byte_fits, byte_then, tail}
use Rattle.wire.specs.Output.{Puts}
use Rattle.encoder.specs.Output.{PutsAt}
use Rattle.encoder.specs.Plan.{referring}
use Rattle.encoder.proofs.Lengths.{full-fixed, length-fixed}

-- ---- null, true, false and the floats: the kind, and m bytes after it

module _ (x : Item) (out : List ℕ) (m : ℕ) (l : x.kind < 5) (e : following 0 x.kind ≡ m) (capacity : length (full x) ≤ length out) where
  pub fixed-fits : m ≤ length (take (length (set out 0 x.kind) - 1) (drop 1 (set out 0 x.kind)))
  fixed-fits =
      rw (length_digits m x.number) at (byte_fits (full x) out (digits m x.number) [] x.kind 0 (full-fixed x m l e) capacity)

  module _ (r : ℕ) (ys : List ℕ) (er : r ≡ m)
      (ey : ys ≡ digits m x.number ++ drop m (take (length (set out 0 x.kind) - 1) (drop 1 (set out 0 x.kind)))) where
    pub fixed_wrote : Wrote (full x) out (put_mid 1 (length (set out 0 x.kind) - 1) (set out 0 x.kind) ys) (1 + r) []
    fixed_wrote =
        let d = length_digits m x.number in
        byte_then (full x) out (digits m x.number) ys x.kind r (full-fixed x m l e) capacity (er ∙ sym d) (rw d ey)

    pub fixed-puts : Puts (full x) (1 + r) out (put_mid 1 (length (set out 0 x.kind) - 1) (set out 0 x.kind) ys)
    fixed-puts = finish_all fixed_wrote (omega (arith, length-fixed x m l e))

-- the kind alone
pub lead_puts : (x : Item) (out : List ℕ) → x.kind < 5 → following 0 x.kind ≡ 0 → length (full x) ≤ length out
    → Puts (full x) 1 out (set out 0 x.kind)
unfolding digits
lead_puts x out l e capacity =
    let s = length-fixed x 0 l e in
    finish_all (byte_as (start (full x) out) (full-fixed x 0 l e) (omega arith)) (omega arith)

-- ---- a name

module _ (r : ℕ) (bs : List ℕ) where
  pub by_reference : r < 256 → referring r bs ≡ header 7 r
  unfolding referring
  by_reference l = pick_yes _ _ (ltb_yes l)

  pub in_full : 256 ≤ r → referring r bs ≡ bs
  unfolding referring
  in_full l = pick_no _ _ (ltb_no l)

-- ---- at an offset

-- the tail from there on came back as ys, with bs at its start
pub puts-at : (at r : ℕ) (bs out ys : List ℕ) → Puts bs r (take (length out - at) (drop at out)) ys
    → PutsAt at bs (at + r) out (put_mid at (length out - at) out ys)
puts-at at r bs out ys h =
    let z : drop (length out - at) (drop at out) ≡ [] = drop_of_length-le (drop at out) {i = length out - at}
    (omega (arith, length-drop at out)) in
    (ap (λ (n : ℕ). at + n) h.0, rw (h.1, tail at out, z, append-nil (bs ++ drop (length bs) (drop at out)), drop-drop (length bs) at out))
