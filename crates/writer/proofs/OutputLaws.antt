-- A row as it is written, by the plan. Assumes nothing.
use mathlib.Core.Path.{◌≡◌, refl, ap, sym, ◌∙◌}
use mathlib.Core.Bool.{false}
use mathlib.Core.List.{List, [], ◌++◌, append-nil}
use Prim.Native.Nat.{ℕ, ◌-◌, ◌≤◌, ◌<◌}
use native.Mathlib.Omega.{arith}
use lib.ListN.{take, drop, get_or}
use Rattle.format.specs.declared.row.Row.{Row}
use Rattle.format.specs.Kind as Kind
use Rattle.format.specs.Header.{header, following}
use Rattle.format.specs.Item.{has_content, is_name}
use Rattle.format.specs.Canonical.{full}
use Rattle.format.specs.Rows.{content_of, item_at}
use Rattle.format.proofs.Tests.{leb_yes, leb_no, pick_yes, pick_no}
use Rattle.format.proofs.Encoding.{full-other}
use Rattle.encoder.specs.Plan.{referring, encoded_at}
use Rattle.encoder.proofs.Lengths.{full-fixed}

module _ (text : List ℕ) (row : Row) where
  headed : Kind.bytes ≤ row.kind → full (item_at text row) ≡ header (row.kind - Kind.bytes) row.number ++ content_of text row
  unfolding item_at
  headed k = full-other (item_at text row) k

  module _ (plan : List ℕ) (i : ℕ) where
    pub at_name : Kind.symbol ≤ row.kind
        → encoded_at plan i (item_at text row) ≡ referring (get_or plan i 0)
        (header (row.kind - Kind.bytes) row.number ++ content_of text row)
    unfolding encoded_at is_name item_at
    at_name l = pick_yes _ _ (leb_yes l) ∙ ap (referring (get_or plan i 0)) (headed (omega arith))

    other : row.kind < Kind.symbol → encoded_at plan i (item_at text row) ≡ full (item_at text row)
    unfolding encoded_at is_name item_at
    other l = pick_no _ _ (leb_no l)

    -- with no content: null, true, false and the floats
    pub at-fixed : row.kind < Kind.bytes
        → encoded_at plan i (item_at text row) ≡ full (record { kind = row.kind; number = row.number; content = [] })
    unfolding item_at
    at-fixed l =
        let m = following 0 row.kind in
        other (omega arith) ∙ full-fixed (item_at text row) m l refl
        ∙ sym (full-fixed (record { kind = row.kind; number = row.number; content = [] }) m l refl)

    module _ (k : Kind.bytes ≤ row.kind) (l : row.kind < Kind.symbol) where
      pub at-header : encoded_at plan i (item_at text row) ≡ header (row.kind - Kind.bytes) row.number ++ content_of text row
      at-header = other l ∙ headed k

      -- with no content
      pub at_plain : has_content row.kind ≡ false → encoded_at plan i (item_at text row) ≡ header (row.kind - Kind.bytes) row.number
      unfolding content_of
      at_plain h = at-header ∙ rw (pick_no (take row.number (drop row.start text)) [] h)
          (append-nil (header (row.kind - Kind.bytes) row.number))
