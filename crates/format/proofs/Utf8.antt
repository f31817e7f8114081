-- UTF-8 and the place at which a text stops being good: what comes before the place begins a good text, and with the
-- byte there none. Assumes nothing.
use Rattle.std.specs.Prelude.{Option, None, Some, is_none, unwrap_or}
use mathlib.Core.Path.{◌≡◌, refl, sym, ap, ◌∙◌}
use Prim.Native.Nat.{ℕ, zero, suc, ◌+◌, ◌≤◌, ◌<◌}
use native.Mathlib.Omega.{arith}
use mathlib.Core.Bool.{Bool, true, false, ◌&&◌}
use mathlib.Core.List.{List, [], ◌∷◌, ◌++◌, append_assoc}
use lib.ListN.{length, take, drop, take-append-drop}
use lib.Seq.{take-take}
use lib.Dec.{ltb}
use Rattle.format.specs.Choice.{pick}
use Rattle.format.specs.Utf8.{bad_at, leads, stop, stop_after, utf8, within}
use Rattle.format.specs.Laws.{Begins, Stops, Utf8Law}
use Rattle.format.proofs.Tests.{cases, clash, none-some, order, pick_no, pick_yes, some_inj}

-- ---- one byte

-- May a byte come where k continuation bytes are due, and how many are due after it?
unfoldable pub fits : ℕ → ℕ → Bool
fits zero b = ltb (leads b) 4
fits (suc k) b = within 0x80 0xbf b

unfoldable pub due_after : ℕ → ℕ → ℕ
due_after zero b = leads b
due_after (suc k) b = k

stop_step : (k at b : ℕ) (bs : List ℕ)
    → stop_after k at (b ∷ bs) ≡ pick (fits k b) (stop_after (due_after k b) (at + 1) bs) (Some at)
unfolding stop_after fits due_after
stop_step zero at b bs = refl
stop_step (suc k) at b bs = refl

pub stop-on : (k b at : ℕ) (bs : List ℕ) → fits k b ≡ true → stop_after k at (b ∷ bs) ≡ stop_after (due_after k b) (at + 1) bs
stop-on k b at bs e = stop_step k at b bs ∙ pick_yes _ _ e

pub stop_here : (k b at : ℕ) (bs : List ℕ) → fits k b ≡ false → stop_after k at (b ∷ bs) ≡ Some at
stop_here k b at bs e = stop_step k at b bs ∙ pick_no _ _ e

-- Bytes are good exactly if the first may come and the others are good after it.
pub good-step : (k b at : ℕ) (bs : List ℕ)
    → is_none (stop_after k at (b ∷ bs)) ≡ (fits k b && is_none (stop_after (due_after k b) (at + 1) bs))
good-step k b at bs =
    cases (fits k b) (λ e. rw (e, stop-on k b at bs e)) (λ e. rw (e, stop_here k b at bs e))

-- Bytes that end what is due.
finish : ℕ → List ℕ
finish zero = []
finish (suc k) = 0x80 ∷ finish k

finished : (k at : ℕ) → stop_after k at (finish k) ≡ None
unfolding finish stop_after within pick
finished zero at = refl
finished (suc k) at = finished k (at + 1)

-- ---- the place

-- The place n, m bytes from `at` on: the bytes before it can be gone on with, and with the byte there cannot.
record Stopped (k at : ℕ) (bs : List ℕ) (n : ℕ) : Type 0 where
  m : ℕ
  far : n ≡ at + m
  inside : m ≤ length bs
  before : (rest : List ℕ) × (stop_after k at (take m bs ++ rest) ≡ None)
  there : m < length bs → (rest : List ℕ) → stop_after k at (take (suc m) bs ++ rest) ≡ None → ⊥

-- Byte by byte: where one may come, the place is that of the bytes after it.
stopped : (k at n : ℕ) (bs : List ℕ) → stop_after k at bs ≡ Some n → Stopped k at bs n
unfolding stop_after
stopped zero at n [] e = none-some e
stopped (suc k) at n [] e = record {
  m = 0;
  far = omega (arith, some_inj e);
  inside = omega arith;
  before = (finish (suc k), finished (suc k) at);
  there = λ l. absurd (omega arith);
}
stopped k at n (b ∷ bs) e =
    cases (fits k b)
    (λ f.
    let r = stopped (due_after k b) (at + 1) n bs (sym (stop-on k b at bs f) ∙ e) in
    record {
      m = suc r.m;
      far = omega (arith, r.far);
      inside = omega (arith, r.inside);
      before = (r.before.0, stop-on k b at (take r.m bs ++ r.before.0) f ∙ r.before.1);
      there = λ l rest g. r.there (omega arith) rest (sym (stop-on k b at (take (suc r.m) bs ++ rest) f) ∙ g);
    })
    (λ f.
    record {
      m = 0;
      far = omega (arith, some_inj (sym (stop_here k b at bs f) ∙ e));
      inside = omega arith;
      before = (finish k, finished k at);
      there = λ l rest g. none-some (sym g ∙ stop_here k b at rest f);
    })

-- ---- a text

is-none : {r : Option ℕ} → is_none r ≡ true → r ≡ None
is-none {r = None} e = refl
is-none {r = Some i} e = clash e refl

good-stop : (bs : List ℕ) → utf8 bs ≡ true → stop bs ≡ None
unfolding utf8
good-stop bs e = is-none e

stop-good : (bs : List ℕ) → stop bs ≡ None → utf8 bs ≡ true
unfolding utf8
stop-good bs e = rw e

stop-bad : (bs : List ℕ) {n : ℕ} → stop bs ≡ Some n → utf8 bs ≡ false
unfolding utf8
stop-bad bs e = rw e

bad-stop : (bs : List ℕ) → utf8 bs ≡ false → stop bs ≡ Some (bad_at bs)
unfolding utf8 bad_at
bad-stop bs e = go (stop bs) e
  where
    go : (r : Option ℕ) → is_none r ≡ false → r ≡ Some (unwrap_or r 0)
    go None e = clash refl e
    go (Some i) e = refl

stop-stops : (bs : List ℕ) {n : ℕ} → stop bs ≡ Some n → Stops bs n
unfolding stop
stop-stops bs {n} e =
    let r = stopped 0 0 n bs e in
    let q : r.m ≡ n = omega (arith, r.far) in
    record {
      bad = stop-bad bs e;
      inside = omega (arith, r.inside);
      before =
          let (rest, e) = r.before in
          let g : Begins (take r.m bs) = (rest, stop-good (take r.m bs ++ rest) e) in rw q at g;
      there = λ l g. r.there (omega arith) g.0 (good-stop (take (suc r.m) bs ++ g.0) (rw q g.1));
    }

-- A front of what begins a good text begins it too.
begins_front : (bs : List ℕ) (m n : ℕ) → m ≤ n → Begins (take n bs) → Begins (take m bs)
begins_front bs m n l g =
    let e : take m bs ++ drop m (take n bs) ≡ take n bs = rw (← take-take m n bs l) (take-append-drop m (take n bs)) in
    (drop m (take n bs) ++ g.0, rw (← append_assoc (take m bs) (drop m (take n bs)) g.0, e) g.1)

stops_once : (bs : List ℕ) (m n : ℕ) → Stops bs m → Stops bs n → m ≡ n
stops_once bs m n a b =
    order m n
    (λ l. order n m (λ h. omega arith)
    (λ h. absurd (a.there (omega (arith, b.inside)) (begins_front bs (suc m) n h b.before))))
    (λ l. absurd (b.there (omega (arith, a.inside)) (begins_front bs (suc n) m l a.before)))

stops-stop : (bs : List ℕ) {n : ℕ} → Stops bs n → stop bs ≡ Some n
stops-stop bs {n} a = let e = bad-stop bs a.bad in e ∙ ap Some (stops_once bs (bad_at bs) n (stop-stops bs e) a)

-- It is in the text, or at its end.
pub bad-within : (bs : List ℕ) → bad_at bs ≤ length bs
unfolding bad_at
bad-within bs = cases (utf8 bs) (λ e. rw (good-stop bs e) (omega arith)) (λ e. (stop-stops bs (bad-stop bs e)).inside)

pub utf8_law : (bs : List ℕ) → Utf8Law bs
utf8_law bs = record {
  good = (λ e. stop-good bs e, λ e. good-stop bs e);
  place = λ n. (λ e. stop-stops bs e, λ a. stops-stop bs a);
  only = λ m n a b. stops_once bs m n a b;
  number = λ e. stop-stops bs (bad-stop bs e);
}
