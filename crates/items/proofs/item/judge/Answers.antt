-- `judge` goes by the code of a header. Assumes nothing.
use native.Mathlib.Omega.{arith}
use mathlib.Core.Path.{sym, ◌∙◌}
use Rattle.items.proofs.Ladder.{waste}
use Rattle.items.proofs.Flat.{fixed-value, plain-small, plain-integer}
use Rattle.items.proofs.Contents.{body_bytes, body_string, name_of}
use Rattle.items.proofs.Heads.{standing, one_byte, past_header, case}
use Rattle.wire.proofs.CodeLaws.{is_zero}
use Rattle.items.proofs.item.judge.Goals as goal

pub wasteful-requires : goal.wasteful-requires
wasteful-requires c = one_byte c.args.s.now c.args.at _
    (λ i. omega (arith, c.type_inv.s i)) c.requires.0

pub returns-then-wasteful : goal.returns-then-wasteful
returns-then-wasteful c = record {
  moves = tt;
  judged = λ o x so hold d. waste o x _ _ so (sym c.wasteful.ensures ∙ c.if-wasteful.true);
}

pub overflow_add-next : goal.overflow_add-next
overflow_add-next c =
    let st = standing c.args.s.now c.args.at c.args.h c.requires.1
    (λ i. omega (arith, c.type_inv.s i)) c.requires.0 in
    omega (arith, st.inside, c.requires.2)

pub returns-then-is_integer : goal.returns-then-is_integer
returns-then-is_integer c =
    let st = standing c.args.s.now c.args.at c.args.h c.requires.1
    (λ i. omega (arith, c.type_inv.s i)) c.requires.0 in record {
      moves = past_header st c.requires.3;
      judged = λ o x so hold d. fixed-value _
          (case so (sym c.wasteful.ensures ∙ c.if-wasteful.false)
          hold) (plain-integer _ (sym c.is_integer.ensures ∙ c.if-is_integer.true));
    }

pub returns-then-code-eq-REFERENCE : goal.returns-then-code-eq-REFERENCE
returns-then-code-eq-REFERENCE c =
    let st = standing c.args.s.now c.args.at c.args.h c.requires.1 (λ i. omega (arith, c.type_inv.s i)) c.requires.0 in record {
      moves = c.reference.ensures.moves c.args.strict c.args.s.now c.args.links.now c.args.at c.args.depth (past_header st c.requires.3);
      judged = λ o x so hold d. c.reference.ensures.judged c.args.s.now o x _ c.args.at
          (case so (sym c.wasteful.ensures ∙ c.if-wasteful.false) hold);
    }

pub name-requires : goal.name-requires
name-requires c =
    let st = standing c.args.s.now c.args.at c.args.h c.requires.1
    (λ i. omega (arith, c.type_inv.s i)) c.requires.0 in
    (name_of _ c.if-code-ge-SYMBOL.true (omega (arith, c.if-code-eq-REFERENCE.false, st.codes)), st.inside, c.requires.2, c.requires.3)

pub returns-then-code-ge-SYMBOL : goal.returns-then-code-ge-SYMBOL
returns-then-code-ge-SYMBOL c =
    let st = standing c.args.s.now c.args.at c.args.h c.requires.1 (λ i. omega (arith, c.type_inv.s i)) c.requires.0 in record {
      moves = c.name.ensures.moves c.args.at c.args.depth (omega (arith, st.some));
      judged = λ o x so hold d. c.name.ensures.judged o x c.args.at so (case so (sym c.wasteful.ensures ∙ c.if-wasteful.false) hold);
    }

pub content-requires : goal.content-requires
content-requires c =
    let st = standing c.args.s.now c.args.at c.args.h c.requires.1
    (λ i. omega (arith, c.type_inv.s i)) c.requires.0 in
    (body_string _ c.if-code-eq-STRING.true, st.inside, c.requires.2)

pub returns-then-code-eq-STRING : goal.returns-then-code-eq-STRING
returns-then-code-eq-STRING c =
    let st = standing c.args.s.now c.args.at c.args.h c.requires.1 (λ i. omega (arith, c.type_inv.s i)) c.requires.0 in record {
      moves = c.content.ensures.moves c.args.strict c.args.entries.now c.args.links.now c.args.at c.args.names c.args.depth
          (past_header st c.requires.3);
      judged = λ o x so hold d. c.content.ensures.judged c.args.entries.now o x c.args.at c.args.names
          c.args.keyed (case so (sym c.wasteful.ensures ∙ c.if-wasteful.false) hold);
    }

pub returns-then-code-eq-CONTAINER : goal.returns-then-code-eq-CONTAINER
returns-then-code-eq-CONTAINER c =
    let st = standing c.args.s.now c.args.at c.args.h c.requires.1 (λ i. omega (arith, c.type_inv.s i)) c.requires.0 in record {
      moves = c.container.ensures.moves c.args.strict c.args.s.now c.args.entries.now c.args.links.now c.args.at c.args.names
          (past_header st c.requires.3);
      judged = λ o x so hold d. c.container.ensures.judged c.args.s.now c.args.entries.now o x _ c.args.at
          c.args.names c.args.keyed (case so (sym c.wasteful.ensures ∙ c.if-wasteful.false) hold) d;
    }

pub returns-then-sz-lt-BYTES : goal.returns-then-sz-lt-BYTES
returns-then-sz-lt-BYTES c =
    let st = standing c.args.s.now c.args.at c.args.h c.requires.1 (λ i. omega (arith, c.type_inv.s i)) c.requires.0 in record {
      moves = past_header st c.requires.3;
      judged = λ o x so hold d. fixed-value _ (case so (sym c.wasteful.ensures ∙ c.if-wasteful.false) hold)
          (plain-small _ (is_zero _ (sym c.is_integer.ensures ∙ c.if-is_integer.false)
          (omega (arith, c.if-code-ge-SYMBOL.false, c.if-code-eq-STRING.false, c.if-code-eq-CONTAINER.false)))
          c.if-sz-lt-BYTES.true);
    }

pub content-requires-2 : goal.content-requires-2
content-requires-2 c =
    let st = standing c.args.s.now c.args.at c.args.h c.requires.1 (λ i. omega (arith, c.type_inv.s i)) c.requires.0 in (
      body_bytes _ (is_zero _ (sym c.is_integer.ensures ∙ c.if-is_integer.false)
          (omega (arith, c.if-code-ge-SYMBOL.false, c.if-code-eq-STRING.false, c.if-code-eq-CONTAINER.false)))
          c.if-sz-lt-BYTES.false,
      st.inside,
      c.requires.2,
    )

pub returns : goal.returns
returns c =
    let st = standing c.args.s.now c.args.at c.args.h c.requires.1 (λ i. omega (arith, c.type_inv.s i)) c.requires.0 in record {
      moves = c.content-2.ensures.moves c.args.strict c.args.entries.now c.args.links.now c.args.at c.args.names c.args.depth
          (past_header st c.requires.3);
      judged = λ o x so hold d. c.content-2.ensures.judged c.args.entries.now o x c.args.at c.args.names
          c.args.keyed (case so (sym c.wasteful.ensures ∙ c.if-wasteful.false) hold);
    }
