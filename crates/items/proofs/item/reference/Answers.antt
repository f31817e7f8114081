-- `reference` judges a reference by the entry at its index. Assumes nothing.
use native.Mathlib.Omega.{arith}
use mathlib.Core.Path.{refl, sym, ◌∙◌}
use Rattle.items.proofs.Flat.{reference_missing, reference-value, reference-again, reference-key}
use Rattle.items.proofs.item.reference.Goals as goal

pub returns-then-names-p : goal.returns-then-names-p
returns-then-names-p c = record {
  moves = λ strict s links at depth m. tt;
  judged = λ s o a bs at cs. reference_missing bs cs c.requires.0 c.requires.2
      c.requires.1 (omega arith);
}

pub returns-then-not-is_key : goal.returns-then-not-is_key
returns-then-not-is_key c =
    let z = sym c.is_key.ensures ∙ c.if-not-is_key.true in
    record {
      moves = λ strict s links at depth m. m;
      judged = λ s o a bs at cs. reference-value bs cs c.requires.0 c.requires.2 c.requires.1 (omega arith) _ refl z;
    }

pub returns-then-keyed-eq1 : goal.returns-then-keyed-eq1
returns-then-keyed-eq1 c =
    let z = sym c.is_key.ensures ∙ c.if-not-is_key.false in
    record {
      moves = λ strict s links at depth m. tt;
      judged = λ s o a bs at cs. reference-again bs cs c.requires.0 c.requires.2 c.requires.1 (omega arith) _ refl z c.if-keyed-eq1.true;
    }

pub returns : goal.returns
returns c =
    let z = sym c.is_key.ensures ∙ c.if-not-is_key.false in
    record {
      moves = λ strict s links at depth m. m;
      judged = λ s o a bs at cs. reference-key bs cs c.requires.0 c.requires.2 c.requires.1 (omega arith) _ refl z c.if-keyed-eq1.false;
    }
