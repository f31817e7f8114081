-- One entry: its key tells names apart, and what is packed is found again. Assumes nothing.
use mathlib.Core.Path.{◌≡◌, sym, ◌∙◌}
use mathlib.Core.Bool.{false}
use mathlib.Core.List.{List}
use Prim.Native.Nat.{ℕ, ◌+◌, ◌*◌, ◌≤◌, ◌<◌}
use native.Mathlib.Omega.{arith}
use lib.ListN.{length, take, drop}
use Rattle.format.specs.Kind as Kind
use Rattle.format.specs.Limits.{max_bytes}
use Rattle.format.specs.Names.{same, same_name}
use Rattle.format.proofs.Tests.{cases, equal, eqb_yes, eqb_no, eqb-true, and-true, pick_yes, pick_no}
use Rattle.format.proofs.Names.{same_true, item_path}
use Rattle.symbols.specs.Mark.{marks, mark_of}
use Rattle.symbols.specs.Entry.{sides, mark_unit, side_unit, shape_of, key_of, entry_of, plain_entry, key_in, kind_in, Packed, side_of, part_in, name, name_in, Sound}
use Rattle.symbols.proofs.MarkLaws.{mark_lt}

-- ---- keys

module _ {a b : List ℕ} {e kind key : ℕ} (content : List ℕ) (ok : Sound a b e) (ek : key ≡ key_of kind content)
    (lo : Kind.symbol ≤ kind) (hi : kind ≤ Kind.key) where
  -- another key: another name
  pub other_key : (key_in e ≡ key → ⊥) → same_name (name kind content) (name_in a b e) ≡ false
  unfolding same_name name_in
  other_key n =
      cases (same_name (name kind content) (name_in a b e))
      (λ t.
      let (p, q) = and-true _ _ t in
      let k : kind ≡ kind_in e = eqb-true _ _ p in
      let s : content ≡ part_in a b e = same_true _ _ q in
      absurd (n (ok.keyed ∙ sym (ek ∙ rw (k, s)))))
      (λ f. f)

  -- the same key: the bytes decide
  pub same_key : key_in e ≡ key → same_name (name kind content) (name_in a b e) ≡ same content (part_in a b e)
  unfolding same_name name_in
  same_key q =
      let m : key_in e ≡ key_of kind content = q ∙ ek in
      let k : kind ≡ kind_in e = omega arith in
      rw (eqb_yes k)

pub key-lt : (kind : ℕ) (content : List ℕ) → kind ≤ Kind.key → length content ≤ max_bytes → key_of kind content < side_unit
key-lt kind content k l = omega (arith, mark_lt content)

-- ---- sides

pub side_first : (side : ℕ) (a b : List ℕ) → side ≡ 0 → side_of side a b ≡ a
unfolding side_of
side_first side a b e = pick_yes _ _ (eqb_yes e)

pub side_second : (side : ℕ) (a b : List ℕ) → (side ≡ 0 → ⊥) → side_of side a b ≡ b
unfolding side_of
side_second side a b e = pick_no _ _ (eqb_no e)

pub side_both : (side : ℕ) (s : List ℕ) → side_of side s s ≡ s
side_both side s = equal side 0 (side_first side s s) (side_second side s s)

-- ---- what is packed

-- with any mark
pub packed : (e start side m len kind : ℕ) → e ≡ entry_of side start (m * mark_unit + shape_of kind len)
    → m < marks → side < sides → len ≤ max_bytes → Kind.symbol ≤ kind → kind ≤ Kind.key → Packed e start side len kind
packed e start side m len kind is ml si short lo hi =
    record { start_is = omega arith; side_is = omega arith; length_is = omega arith; kind_is = omega arith }

-- with no mark
pub packed_plain : (start len kind : ℕ) → len ≤ max_bytes → Kind.symbol ≤ kind → kind ≤ Kind.key
    → Packed (plain_entry kind start len) start 0 len kind
packed_plain start len kind = packed _ start 0 0 len kind (omega arith) (omega arith) (omega arith)

-- with a name's mark
pub packed_marked : (start side kind key : ℕ) (content : List ℕ) → key ≡ key_of kind content → side < sides
    → length content ≤ max_bytes → Kind.symbol ≤ kind → kind ≤ Kind.key
    → Packed (entry_of side start key) start side (length content) kind
packed_marked start side kind key content ek = packed _ start side (mark_of content) (length content) kind (rw ek) (mark_lt content)

-- a name whose bytes stand at start of a side
module _ (a b : List ℕ) (kind key side start : ℕ) (content : List ℕ) (ek : key ≡ key_of kind content)
    (lo : Kind.symbol ≤ kind) (hi : kind ≤ Kind.key)
    (short : length content ≤ max_bytes) (si : side < sides) (inside : start + length content ≤ length (side_of side a b))
    (is : content ≡ take (length content) (drop start (side_of side a b))) where
  abbrev e : ℕ
  e = entry_of side start key

  p : Packed e start side (length content) kind
  p = packed_marked start side kind key content ek si short lo hi

  part_is : part_in a b e ≡ content
  unfolding part_in
  part_is = rw (p.length_is, p.start_is, p.side_is) (sym is)

  pub packed_name : name_in a b (entry_of side start key) ≡ name kind content
  unfolding name_in
  packed_name = item_path p.kind_is p.length_is part_is

  pub packed_sound : Sound a b (entry_of side start key)
  packed_sound =
      record {
        inside = rw (p.length_is, p.start_is, p.side_is) inside;
        keyed = omega (arith, key-lt kind content hi short) ∙ ek ∙ sym (rw (p.kind_is, part_is));
      }
