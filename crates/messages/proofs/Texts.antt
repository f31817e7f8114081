-- Labels and refusals: how long they are, and with their first part written and the others to come. Assumes nothing.
use mathlib.Core.Path.{◌≡◌}
use mathlib.Core.Logic.{◌≢◌}
use mathlib.Core.Bool.{Bool, true, false}
use mathlib.Core.List.{List, [], ◌∷◌}
use Prim.Native.Nat.{ℕ, ◌+◌, ◌≤◌}
use native.Mathlib.Omega.{arith}
use lib.Dec.{eqb}
use lib.ListN.{length}
use Rattle.format.specs.Choice.{pick}
use Rattle.format.proofs.Tests.{eqb_no}
use Rattle.wire.specs.Output.{Puts}
use Rattle.ascii.specs.Text.{ascii, labelled, newline}
use Rattle.ascii.proofs.Lengths.{length_flatten, length-labelled, length_one}
use Rattle.ascii.proofs.Writing.{Stage, first, first_fits}
use Rattle.messages.specs.Text.{beside, error_at, label, max_refusal, meaning, refusal, unknown_option, words}

-- ---- labels

pub length_label : (name subject : List ℕ) → length (label name subject) ≡ length name + 2 + length subject
unfolding ascii label
length_label name subject = omega (arith, length_flatten name (ascii ": " ∷ subject ∷ []), length_flatten (ascii ": ") (subject ∷ []), length_one subject)

module _ (name subject out : List ℕ) (capacity : length (label name subject) ≤ length out) where
  pub name-fits : length name ≤ length out
  unfolding label
  name-fits = first_fits name (ascii ": " ∷ subject ∷ []) out capacity

  pub name-put : {l : List ℕ} {n : ℕ} → Puts name n out l → Stage (label name subject) out l n (ascii ": " ∷ subject ∷ [])
  unfolding label
  name-put {l} {n} p = first name (ascii ": " ∷ subject ∷ []) out capacity l n p

-- ---- options

pub length_unknown : (name option : List ℕ) → length (unknown_option name option) ≡ length name + 2 + length option + 29
unfolding ascii unknown_option
length_unknown name option =
    omega (
      arith,
      length_flatten (label name option) (ascii ": unknown option, try --help\n" ∷ []),
      length_label name option,
      length_one (ascii ": unknown option, try --help\n"),
    )

module _ (name option out : List ℕ) (capacity : length (unknown_option name option) ≤ length out) where
  pub label-fits : length (label name option) ≤ length out
  unfolding unknown_option
  label-fits = first_fits (label name option) (ascii ": unknown option, try --help\n" ∷ []) out capacity

  pub label-put : {l : List ℕ} {n : ℕ} → Puts (label name option) n out l
      → Stage (unknown_option name option) out l n (ascii ": unknown option, try --help\n" ∷ [])
  unfolding unknown_option
  label-put {l} {n} p = first (label name option) (ascii ": unknown option, try --help\n" ∷ []) out capacity l n p

-- ---- words

either : (b : Bool) (x y : List ℕ) → length x ≤ 55 → length y ≤ 55 → length (pick b x y) ≤ 55
unfolding pick
either true x y p q = p
either false x y p q = q

words-short : (n : ℕ) → length (words n) ≤ 55
unfolding ascii beside words
words-short n =
    either (eqb n 1) _ _ (omega arith)
    (either (eqb n 2) _ _ (omega arith) (either (eqb n 3) _ _ (omega arith) (either (eqb n 4) _ _ (omega arith)
    (either (eqb n 5) _ _ (omega arith)
    (either (eqb n 6) _ _ (omega arith) (either (eqb n 7) _ _ (omega arith) (either (eqb n 8) _ _ (omega arith)
    (either (eqb n 10) _ _ (omega arith) (either (eqb n 12) _ _ (omega arith) (either (eqb n 13) _ _ (omega arith) (omega arith)))))))))))

-- none of the numbers that have a meaning
abbrev pub Other : ℕ → Type 0
Other n =
    (((((((((((Unit {0} × (n ≢ 1)) × (n ≢ 2)) × (n ≢ 3)) × (n ≢ 4)) × (n ≢ 5)) × (n ≢ 6)) × (n ≢ 7)) × (n ≢ 8))
    × (n ≢ 10)) × (n ≢ 12)) × (n ≢ 13))

-- Each of the others has the words of 0.
pub words-other : (n : ℕ) → Other n → words n ≡ words 0
unfolding pick beside words
words-other n (((((((((((_, a), b), c), d), e), f), g), h), i), j), k) =
    rw (eqb_no a, eqb_no b, eqb_no c, eqb_no d, eqb_no e, eqb_no f, eqb_no g, eqb_no h, eqb_no i, eqb_no j, eqb_no k)

-- ---- refusals

-- the error and its place
module _ (error place : ℕ) where
  pub length-error : length (error_at error place) ≤ 52
  unfolding ascii error_at
  length-error =
      omega (
        arith,
        length_flatten (labelled (ascii ": error ") error) (labelled (ascii " at ") place ∷ []),
        length-labelled (ascii ": error ") error,
        length_one (labelled (ascii " at ") place),
        length-labelled (ascii " at ") place,
      )

  module _ (out : List ℕ) (capacity : length (error_at error place) ≤ length out) where
    pub error-fits : length (labelled (ascii ": error ") error) ≤ length out
    unfolding error_at
    error-fits = first_fits (labelled (ascii ": error ") error) (labelled (ascii " at ") place ∷ []) out capacity

    pub error-put : {l : List ℕ} {n : ℕ} → Puts (labelled (ascii ": error ") error) n out l
        → Stage (error_at error place) out l n (labelled (ascii " at ") place ∷ [])
    unfolding error_at
    error-put {l} {n} p = first (labelled (ascii ": error ") error) (labelled (ascii " at ") place ∷ []) out capacity l n p

-- what it means
module _ (error : ℕ) where
  pub length-meaning : length (meaning error) ≤ 58
  unfolding ascii meaning
  length-meaning =
      omega (
        arith,
        length_flatten (ascii ": ") (words error ∷ (newline ∷ []) ∷ []),
        length_flatten (words error) ((newline ∷ []) ∷ []),
        words-short error,
        length_one (newline ∷ []),
      )

  module _ (out : List ℕ) (capacity : length (meaning error) ≤ length out) where
    pub colon_fits : length (ascii ": ") ≤ length out
    unfolding meaning
    colon_fits = first_fits (ascii ": ") (words error ∷ (newline ∷ []) ∷ []) out capacity

    pub colon_put : {l : List ℕ} {n : ℕ} → Puts (ascii ": ") n out l → Stage (meaning error) out l n (words error ∷ (newline ∷ []) ∷ [])
    unfolding meaning
    colon_put {l} {n} p = first (ascii ": ") (words error ∷ (newline ∷ []) ∷ []) out capacity l n p

-- all of it
module _ (k error place : ℕ) where
  pub refusal-short : length (refusal k error place) ≤ max_refusal
  unfolding ascii refusal
  refusal-short =
      omega (
        arith,
        length_flatten (labelled (ascii ": envelope ") k) (error_at error place ∷ meaning error ∷ []),
        length-labelled (ascii ": envelope ") k,
        length_flatten (error_at error place) (meaning error ∷ []),
        length-error error place,
        length_one (meaning error),
        length-meaning error,
      )

  module _ (out : List ℕ) (capacity : max_refusal ≤ length out) where
    refusal-fits : length (refusal k error place) ≤ length out
    refusal-fits = omega (arith, refusal-short)

    pub envelope-fits : length (labelled (ascii ": envelope ") k) ≤ length out
    unfolding refusal
    envelope-fits = first_fits (labelled (ascii ": envelope ") k) (error_at error place ∷ meaning error ∷ []) out refusal-fits

    pub envelope-put : {l : List ℕ} {n : ℕ} → Puts (labelled (ascii ": envelope ") k) n out l
        → Stage (refusal k error place) out l n (error_at error place ∷ meaning error ∷ [])
    unfolding refusal
    envelope-put {l} {n} p = first (labelled (ascii ": envelope ") k) (error_at error place ∷ meaning error ∷ []) out refusal-fits l n p
