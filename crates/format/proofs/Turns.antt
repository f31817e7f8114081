-- A bundle that reads, item by item, with the state that reading has come to: the next item by its header, and the end. Assumes nothing.
use Rattle.std.specs.Prelude.{None, Some, slice_get, Ok}
use mathlib.Core.Path.{◌≡◌, refl, sym, ap, ◌∙◌, subst}
use mathlib.Core.Bool.{true, false}
use mathlib.Core.List.{List, [], ◌∷◌, ◌++◌, append_assoc, append-nil}
use Prim.Native.Nat.{ℕ, ◌+◌, ◌≤◌, ◌<◌}
use native.Mathlib.Nat.{add-zero}
use native.Mathlib.Omega.{arith}
use lib.ListN.{length, take, drop, length-drop}
use lib.Seq.{drop-drop}
use Rattle.format.specs.Kind as Kind
use Rattle.format.specs.Code as Code
use Rattle.format.specs.Limits.{fixed_sizes, max_entries}
use Rattle.format.specs.Header.{Header, header_of}
use Rattle.format.specs.Item.{Item, is_name}
use Rattle.format.specs.Reading.{Found, Options, State, Form, content, fixed, reference, form_of, is_content, item, item_of, items_of, after, run}
use Rattle.format.proofs.Tests.{and_no_left, and_no_right, and_right, and_yes, leb-false, ltb-false, ltb_no, ltb_yes, order, pick_no, pick_yes, some_inj, none-some}
use Rattle.format.proofs.Lists.{items_snoc}
use Rattle.format.proofs.Headers.{following-small, header-inside, shift_zero, size-within}
use Rattle.format.proofs.Forms.{form-fixed}
use Rattle.format.proofs.Steps.{Passed, item-step, step_forward, Reads, done, more, run-reads, reads-run, read_items, reads-found, step-drop, step-found, step-item, step-within, ending-good, run_end}

-- The item at a state on the way to u, with header h.
pub record Turn (o : Options) (s : List ℕ) (a u : State) (h : Header) : Type 0 where
  pub next : State
  pub y : Found
  pub headed : header_of (drop a.at s) ≡ Some h
  pub is : item o a (drop a.at s) ≡ Ok next
  pub meant : item_of (form_of h) h.payload (a.at + h.size) (drop (a.at + h.size) s) a.entries ≡ Some y
  pub passed : Passed o a h (drop (a.at + h.size) s) y.item
  pub goes : next ≡ after a h (form_of h) y
  pub reads : run o next 0 (drop next.at s) ≡ Ok u
  pub within : next.at ≤ length s
  -- the items of the whole, up to this one and after it
  pub later : List Item
  pub all : items_of u.found ≡ items_of a.found ++ (y.item ∷ later)

turns : {o : Options} (s : List ℕ) (h : Header) {a u : State} {bs : List ℕ} → Reads o a bs u → bs ≡ drop a.at s
    → Some h ≡ header_of bs → Turn o s a u h
unfolding header_of
turns s h (done d) q e = none-some (sym e)
turns {o} s h {a} (more {t = t} {u = u} {bs = bs} p v) q e =
    let k : p.h ≡ h = some_inj (sym p.headed ∙ sym e) in
    let b : drop p.h.size bs ≡ drop (a.at + p.h.size) s = ap (drop p.h.size) q ∙ drop-drop p.h.size a.at s in
    record {
      next = t;
      y = p.x;
      headed = rw q at (sym e);
      is = rw q at (step-item p);
      meant = subst (λ (g : Header). item_of (form_of g) g.payload (a.at + g.size) (drop (a.at + g.size) s)
          a.entries ≡ Some p.x) k (rw b at p.meant);
      passed = subst (λ (g : Header). Passed o a g (drop (a.at + g.size) s) p.x.item) k (rw b at p.passed);
      goes = p.next ∙ ap (λ (g : Header). after a g (form_of g) p.x) k;
      reads = rw (step-drop s q p) at (reads-run v);
      within = omega (arith, step-within p, ap length q ∙ length-drop a.at s, size-within bs p.h p.headed);
      later = read_items v;
      all = reads-found v ∙ ap (λ (l : List Item). l ++ read_items v) (ap items_of (step-found p)
          ∙ items_snoc a.found p.x) ∙ append_assoc (items_of a.found) (p.x.item ∷ []) (read_items v);
    }

pub turn : {o : Options} (s : List ℕ) {a u : State} {h : Header} → run o a 0 (drop a.at s) ≡ Ok u
    → Some h ≡ header_of (drop a.at s) → Turn o s a u h
turn s {h = h} r e = turns s h (run-reads _ r) refl e

module _ {o : Options} {s : List ℕ} {a u : State} {h : Header} (w : Turn o s a u h) where
  -- The header ends within the bytes.
  pub header-within : a.at + h.size ≤ length s
  unfolding after
  header-within = omega (arith, w.within, ap (λ (v : State). v.at) w.goes)

  pub turn_forward : a.at < w.next.at
  turn_forward = step_forward (item-step _ w.is)

  pub turn_found : w.next.found ≡ a.found ++ (w.y ∷ [])
  unfolding after
  turn_found = ap (λ (v : State). v.found) w.goes

  -- ---- after the items zs

  module _ (zs : List Item) where
    -- one item more
    pub items_more : zs ++ items_of w.next.found ≡ (zs ++ items_of a.found) ++ (w.y.item ∷ [])
    items_more =
        ap (λ (l : List Found). zs ++ items_of l) turn_found ∙ ap (λ (l : List Item). zs ++ l) (items_snoc a.found w.y)
        ∙ sym (append_assoc zs (items_of a.found) (w.y.item ∷ []))

    -- those before it, it, and those after it
    pub items-all : zs ++ items_of u.found ≡ (zs ++ items_of a.found) ++ (w.y.item ∷ w.later)
    items-all = ap (λ (l : List Item). zs ++ l) w.all ∙ sym (append_assoc zs (items_of a.found) (w.y.item ∷ w.later))

  -- ---- by the form of the header

  next-is : (f : Form) → form_of h ≡ f → w.next ≡ after a h f w.y
  next-is f e = w.goes ∙ ap (λ (g : Form). after a h g w.y) e

  -- no content follows
  module _ {f : Form} (e : form_of h ≡ f) (flat : is_content f ≡ false) where
    pub flat_ends : w.next.at ≡ a.at + h.size
    unfolding after
    flat_ends = ap (λ (v : State). v.at) (next-is f e) ∙ ap (λ (n : ℕ). a.at + h.size + n) (pick_no _ _ flat) ∙ add-zero _

    pub flat_kept : w.next.entries ≡ a.entries
    unfolding after
    flat_kept = ap (λ (v : State). v.entries) (next-is f e) ∙ pick_no _ _ (and_no_left _ flat)

  -- null, true, false or a float; the first three have the payload 0
  pub form-read : h.code ≡ Code.binary → h.sz < fixed_sizes → form_of h ≡ fixed h.sz h.payload
  form-read c l =
      form-fixed h c l
      ∙ ap (fixed h.sz)
      (order Kind.float32 h.sz (λ g. pick_no _ _ (ltb_no g))
      (λ g. pick_yes _ _ (ltb_yes g)
      ∙ omega (arith, header-inside _ h w.headed (following-small h.code h.sz c g), shift_zero h.code c)))

  pub fixed-is : {k n : ℕ} → form_of h ≡ fixed k n → w.y ≡ record { item = record { kind = k; number = n; content = [] }; start = 0 }
  unfolding item_of
  fixed-is e = sym (some_inj (rw e at w.meant))

  pub reference-is : form_of h ≡ reference → slice_get a.entries h.payload ≡ Some w.y
  unfolding item_of
  reference-is e = rw e at w.meant

  module _ {k : ℕ} (e : form_of h ≡ content k) where
    pub content-is : w.y ≡ record {
      item = record { kind = k; number = h.payload; content = take h.payload (drop (a.at + h.size) s) };
      start = a.at + h.size;
    }
    unfolding item_of
    content-is = sym (some_inj (rw e at w.meant))

    follows : is_content (form_of h) ≡ true
    unfolding is_content
    follows = ap is_content e

    pub content-inside : h.payload ≤ length (drop (a.at + h.size) s)
    content-inside = ltb-false _ _ (and_right follows w.passed.whole)

    pub content-ends : w.next.at ≡ a.at + h.size + h.payload
    unfolding after
    content-ends = ap (λ (v : State). v.at) w.goes ∙ ap (λ (n : ℕ). a.at + h.size + n) (pick_yes _ _ follows)

    -- what is no name makes no entry
    pub content-kept : is_name w.y.item ≡ false → w.next.entries ≡ a.entries
    unfolding after
    content-kept n = ap (λ (v : State). v.entries) w.goes ∙ pick_no _ _ (and_no_right (is_content (form_of h)) n)

    -- a name in full makes one
    module _ (n : is_name w.y.item ≡ true) where
      pub name-room : length a.entries < max_entries
      name-room = leb-false max_entries (length a.entries) (and_right (and_yes follows n) w.passed.entry)

      pub name-entry : w.next.entries ≡ a.entries ++ (w.y ∷ [])
      unfolding after
      name-entry = ap (λ (v : State). v.entries) w.goes ∙ pick_yes _ _ (and_yes follows n)

-- ---- where bytes are left, and where none are

headed : {o : Options} {a u : State} {bs : List ℕ} → Reads o a bs u → 0 < length bs → (h : Header) × (header_of bs ≡ Some h)
headed (done d) l = absurd (omega arith)
headed (more p v) l = (p.h, p.headed)

found_front : {o : Options} {a u : State} {bs : List ℕ} → Reads o a bs u → (xs : List Found)
    × (u.found ≡ a.found ++ xs) × (0 < length bs → 0 < length xs)
found_front (done {s = a} d) = ([], sym (append-nil a.found), λ l. l)
found_front (more {s = a} p v) =
    let (xs, e, _) = found_front v in
    (p.x ∷ xs, e ∙ ap (λ (l : List Found). l ++ xs) (step-found p) ∙ append_assoc a.found (p.x ∷ []) xs, λ _. omega arith)

module _ (o : Options) (s : List ℕ) (a : State) {u : State} (r : run o a 0 (drop a.at s) ≡ Ok u) where
  -- Where a byte is left there is a whole header.
  pub never-cut {ℓ} : {X : Type ℓ} → a.at < length s → None ≡ header_of (drop a.at s) → X
  never-cut l e = let (h, q) = headed (run-reads _ r) (rw length-drop (omega arith)) in none-some (e ∙ q)

  -- What was found comes first, and more comes where a byte is left.
  pub found_first : (xs : List Found) × (u.found ≡ a.found ++ xs) × (a.at < length s → 0 < length xs)
  found_first = let (xs, e, m) = found_front (run-reads _ r) in (xs, e, λ l. m (rw length-drop (omega arith)))

  -- At the end of the bytes all is read.
  pub all_read : length s ≤ a.at → a ≡ u
  all_read l = (ending-good (sym (run_end _ a s l) ∙ r)).1
