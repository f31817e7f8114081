-- `container` judges a container by its depth. Assumes nothing.
use native.Mathlib.Omega.{arith}
use mathlib.Core.Path.{sym, ◌∙◌}
use Rattle.items.proofs.Flat.{container-deep, container_empty, container-held}
use Rattle.items.proofs.item.container.Goals as goal

pub returns-then-depth-eq0 : goal.returns-then-depth-eq0
returns-then-depth-eq0 c = record {
  moves = λ strict s es links at names m. tt;
  judged = λ s es o a bs at names keyed cs d. container-deep bs cs c.requires (omega arith);
}

pub returns-then-n-eq0 : goal.returns-then-n-eq0
returns-then-n-eq0 c = record {
  moves = λ strict s es links at names m. m;
  judged = λ s es o a bs at names keyed cs d. container_empty bs cs
      c.requires (omega arith) (sym c.of-count.ensures ∙ c.if-n-eq0.true);
}

pub returns : goal.returns
returns c = record {
  moves = λ strict s es links at names m. (omega arith, omega (arith, c.if-n-eq0.false), m);
  judged = λ s es o a bs at names keyed cs d. container-held bs cs c.requires (omega arith)
      c.of-count.result c.of-count.ensures (λ z. c.if-n-eq0.false (c.of-count.ensures ∙ z));
}
