-- An item as it is written, by the code of its header: what `rewritten` is, and where the item ends. Assumes nothing.
use mathlib.Core.Path.{◌≡◌, refl, ap, sym, ◌∙◌}
use mathlib.Core.Bool.{true, false, ◌&&◌}
use mathlib.Core.List.{List, []}
use Prim.Native.Nat.{ℕ, ◌+◌, ◌≤◌, ◌<◌}
use native.Mathlib.Nat.{add-zero}
use lib.Dec.{leb, ltb, eqb}
use lib.ListN.{length}
use Rattle.format.specs.declared.header.Header.{Header}
use Rattle.format.specs.Header.{header}
use Rattle.format.specs.Reading.{Form, form_of, is_content}
use Rattle.format.specs.Canonical.{full}
use Rattle.format.proofs.Tests.{leb_yes, leb_no, pick_yes, pick_no}
use Rattle.format.proofs.Forms.{form-fixed, form-reference}
use Rattle.wire.specs.Numbers.{number_of}
use Rattle.wire.proofs.CodeLaws.{code-within, form-number}
use Rattle.encoder.specs.Plan.{referring}
use Rattle.rewriter.specs.Items.{sized, rewritten, content_length, Whole}
use Rattle.rewriter.proofs.Arms.{fixed-code, form-held}

module _ (s : List ℕ) (refer next : ℕ) (h : Header) where
  none_follows : (f : Form) → form_of h ≡ f → is_content f ≡ false → next ≡ next + content_length h
  none_follows f e c = sym (ap (λ (n : ℕ). next + n) (pick_no _ _ (ap is_content e ∙ c)) ∙ add-zero next)

  -- an integer or a container
  module _ (n : leb 1 h.code && leb h.code 3 ≡ true) where
    pub rewritten-number : rewritten s refer next h ≡ header h.code (number_of h.code h.payload)
    unfolding rewritten
    rewritten-number = pick_yes _ _ n

    pub ends-number : next ≡ next + content_length h
    unfolding is_content
    ends-number = none_follows _ (form-number h (code-within 1 3 _ n).0 (code-within 1 3 _ n).1) refl

  module _ (n : leb 1 h.code && leb h.code 3 ≡ false) where
    -- a reference
    module _ (hi : 7 ≤ h.code) where
      pub rewritten-reference : rewritten s refer next h ≡ header 7 refer
      unfolding rewritten
      rewritten-reference = pick_no _ _ n ∙ pick_yes _ _ (leb_yes hi)

      pub ends-reference : next ≡ next + content_length h
      unfolding is_content
      ends-reference = none_follows _ (form-reference h hi) refl

    module _ (lo : h.code < 7) where
      -- null, true, false or a float
      module _ (f : eqb h.code 0 && ltb h.sz 5 ≡ true) where
        pub rewritten-fixed : rewritten s refer next h ≡ full (record { kind = h.sz; number = h.payload; content = [] })
        unfolding rewritten
        rewritten-fixed = pick_no _ _ n ∙ pick_no _ _ (leb_no lo) ∙ pick_yes _ _ f

        pub ends-fixed : next ≡ next + content_length h
        unfolding is_content
        ends-fixed = none_follows _ (form-fixed h (fixed-code h.code h.sz f).0 (fixed-code h.code h.sz f).1) refl

      -- with content
      module _ (f : eqb h.code 0 && ltb h.sz 5 ≡ false) where
        pub rewritten-name : 5 ≤ h.code → rewritten s refer next h ≡ referring refer (sized s next h)
        unfolding rewritten
        rewritten-name l = pick_no _ _ n ∙ pick_no _ _ (leb_no lo) ∙ pick_no _ _ f ∙ pick_yes _ _ (leb_yes l)

        pub rewritten-sized : h.code < 5 → rewritten s refer next h ≡ sized s next h
        unfolding rewritten
        rewritten-sized l = pick_no _ _ n ∙ pick_no _ _ (leb_no lo) ∙ pick_no _ _ f ∙ pick_no _ _ (leb_no l)

        follows : is_content (form_of h) ≡ true
        unfolding is_content
        follows = ap is_content (form-held h n f lo)

        pub ends_held : next + h.payload ≡ next + content_length h
        ends_held = sym (ap (λ (k : ℕ). next + k) (pick_yes _ _ follows))

        pub held-within : Whole s next h → next + h.payload ≤ length s
        held-within w = w.within follows
