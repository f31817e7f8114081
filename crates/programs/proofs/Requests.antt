-- What one argument asks for, case by case, and inputs one after the other. Assumes nothing.
use Rattle.std.specs.Prelude.{None, Some}
use mathlib.Core.Path.{◌≡◌, refl, sym, ap, subst, ◌∙◌}
use mathlib.Core.Logic.{◌≢◌}
use mathlib.Core.Bool.{true, false}
use Prim.Native.Nat.{ℕ, suc, ◌+◌, ◌-◌, ◌≤◌, ◌<◌}
use native.Mathlib.Omega.{arith}
use mathlib.Core.List.{List, [], ◌∷◌}
use lib.ListN.{length, get_or}
use Rattle.format.specs.Choice.{pick}
use Rattle.format.specs.Names.{same}
use Rattle.format.proofs.Tests.{eqb_no, eqb_yes, ltb_no, ltb_yes, pick_no, pick_yes}
use Rattle.ascii.specs.Text.{ascii}
use Rattle.stream.specs.declared.state.Refused.{Refused}
use Rattle.stream.specs.declared.state.Stream.{Stream}
use Rattle.stream.specs.State.{first}
use Rattle.stream.specs.Run.{Filter, Runs}
use Rattle.programs.specs.declared.arguments.Argument.TheVariants.{File, Help, Version, Unknown}
use Rattle.programs.specs.Arguments.{argument_of}
use Rattle.programs.specs.Exit.{Served, Serves, Serving, inputs_of, no_input, one_more, ran, status_of}

-- ---- one argument

-- `-`
abbrev pub hyphen : ℕ
hyphen = 45

pub file_empty : (word : List ℕ) → length word ≡ 0 → argument_of word ≡ File
unfolding argument_of same ascii pick
file_empty [] z = refl
file_empty (b ∷ bs) z = absurd (omega (arith, z))

pub file_named : (word : List ℕ) → 0 < length word → get_or word 0 0 ≢ hyphen → argument_of word ≡ File
unfolding argument_of same ascii pick
file_named [] l h = absurd (omega (arith, l))
file_named (b ∷ bs) l h = rw (eqb_no {b = hyphen} h)

-- What begins with `-` is told by its bytes.
option : (word : List ℕ) → 0 < length word → get_or word 0 0 ≡ hyphen
    → argument_of word ≡ pick (same word (ascii "--help")) Help (pick (same word (ascii "--version")) Version Unknown)
unfolding argument_of same ascii pick
option [] l h = absurd (omega (arith, l))
option (b ∷ bs) l h = let e = eqb_yes {a = b} {b = hyphen} h in rw e refl

module _ (word : List ℕ) (l : 0 < length word) (h : get_or word 0 0 ≡ hyphen) where
  pub help : same word (ascii "--help") ≡ true → argument_of word ≡ Help
  help e = option word l h ∙ pick_yes _ _ e

  module _ (no : same word (ascii "--help") ≡ false) where
    pub version : same word (ascii "--version") ≡ true → argument_of word ≡ Version
    version e = option word l h ∙ pick_no _ _ no ∙ pick_yes _ _ e

    pub unknown : same word (ascii "--version") ≡ false → argument_of word ≡ Unknown
    unknown e = option word l h ∙ pick_no _ _ no ∙ pick_no _ _ e

pub ruleset by_word = (file_empty, file_named, help, version, unknown)

-- ---- inputs

module _ (p : Filter) where
  -- standard input alone
  pub served-input : (arguments : ℕ) (s r : Stream) → arguments < 2 → s ≡ first → Runs p s r → Serving p (inputs_of arguments) r
  unfolding inputs_of
  served-input arguments s r l e h =
      record {
        count = 1;
        served = one_more no_input refl refl (ran (subst (λ (x : Stream). Runs p x r) e h));
        all = λ _ _. sym (pick_yes _ _ (ltb_yes l));
      }

  module _ (i arguments : ℕ) (s : Stream) (h : Served p (i - 1) s) where
    -- one file more
    pub served-more : 1 ≤ i → (r : Stream) → s.stopped ≡ false → s.failed ≡ false → Serves p s r → Served p (i + 1 - 1) r
    served-more l r a b t = let e : suc (i - 1) ≡ i + 1 - 1 = omega arith in subst (λ (n : ℕ). Served p n r) e (one_more h a b t)

    pub served-all : 2 ≤ arguments → i ≡ arguments → Serving p (inputs_of arguments) s
    unfolding inputs_of
    served-all l e = record { count = i - 1; served = h; all = λ _ _. ap (λ (n : ℕ). n - 1) e ∙ sym (pick_no _ _ (ltb_no l)) }

-- ---- the exit status

module _ (s : Stream) where
  pub status_failed : s.failed ≡ true → status_of s ≡ 2
  unfolding status_of
  status_failed e = pick_yes _ _ e

  module _ (fine : s.failed ≡ false) where
    pub status_stopped : s.stopped ≡ true → status_of s ≡ 1
    unfolding status_of
    status_stopped e = pick_no _ _ fine ∙ pick_yes _ _ (rw e)

    module _ (going : s.stopped ≡ false) where
      pub status_refused : {r : Refused} → s.refusal ≡ Some r → status_of s ≡ 1
      unfolding status_of
      status_refused e = pick_no _ _ fine ∙ pick_yes _ _ (rw (going, e))

      pub status_good : s.refusal ≡ None → status_of s ≡ 0
      unfolding status_of
      status_good e = pick_no _ _ fine ∙ pick_no _ _ (rw (going, e))
