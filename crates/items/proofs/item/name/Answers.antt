-- `name` judges a name in full, and what the table says of it. Assumes nothing.
use native.Mathlib.Omega.{arith}
use mathlib.Core.Bool.{not}
use mathlib.Core.Path.{refl, sym, ap, ◌∙◌}
use Rattle.format.specs.Item.{is_key}
use Rattle.items.proofs.Contents.{content-again, content-cut, content-text, name-text, name_moves, name_judged, name-plain, fair-plain}
use Rattle.items.proofs.item.name.Goals as goal

pub kind_of-kind-requires : goal.kind_of-kind-requires
kind_of-kind-requires c = c.requires.0.last

pub returns-then-key_after_key : goal.returns-then-key_after_key
unfolding is_key
returns-then-key_after_key c =
    let k = rw c.kind_of-kind.ensures at c.key_after_key.ensures in record {
      moves = λ at depth l. tt;
      judged = λ o a at so cs. content-again cs _ refl _ c.requires.0.form
          (name-plain c.requires.0) (sym k ∙ c.if-key_after_key.true);
    }

pub returns-then-s-next : goal.returns-then-s-next
unfolding is_key
returns-then-s-next c =
    let k = rw c.kind_of-kind.ensures at c.key_after_key.ensures in record {
      moves = λ at depth l. tt;
      judged = λ o a at so cs. content-cut cs _ c.of-len.ensures _ c.requires.0.form
          (name-plain c.requires.0) (sym k ∙ c.if-key_after_key.false) c.if-s-next.true;
    }

pub returns-then-not-is_utf8_name : goal.returns-then-not-is_utf8_name
unfolding is_key
returns-then-not-is_utf8_name c =
    let k = rw c.kind_of-kind.ensures
    at c.key_after_key.ensures in record {
      moves = λ at depth l. (omega arith, omega arith);
      judged = λ o a at so cs. content-text cs _ c.of-len.ensures _
          c.requires.0.form (name-plain c.requires.0) (sym k ∙ c.if-key_after_key.false)
          c.if-s-next.false
          (name-text c.args.s.now c.args.next _ c.requires.0 c.is_utf8_name.ensures ∙ ap not c.if-not-is_utf8_name.true);
    }

pub new_name-requires : goal.new_name-requires
new_name-requires c =
    (omega (arith, c.requires.0.high), omega (arith, c.requires.0.last), omega arith, omega arith, c.requires.2, c.requires.3.chained c.if-strict.true)

pub returns-then-strict : goal.returns-then-strict
returns-then-strict c =
    let k = rw c.kind_of-kind.ensures at c.key_after_key.ensures in
    let entered = rw c.kind_of-kind.ensures at c.new_name.ensures in record {
      moves = λ at depth l. name_moves c.if-strict.true at depth (omega arith) (omega arith) entered;
      judged = λ o a at so cs. name_judged c.requires.0 (so ∙ c.if-strict.true) cs _ c.of-len.ensures c.requires.3.size
          c.requires.3.few (sym k ∙ c.if-key_after_key.false) c.if-s-next.false (name-text c.args.s.now c.args.next _ c.requires.0
          c.is_utf8_name.ensures ∙ ap not c.if-not-is_utf8_name.false) entered;
    }

pub any_name-requires : goal.any_name-requires
any_name-requires c =
    (omega (arith, c.requires.0.high), omega (arith, c.requires.0.last), omega arith, omega (arith, c.requires.2), c.requires.3.few)

pub returns : goal.returns
returns c =
    let k = rw c.kind_of-kind.ensures
    at c.key_after_key.ensures in
    let entered = rw c.kind_of-kind.ensures at (c.any_name.ensures c.args.s.now c.args.links.now (omega arith) (fair-plain c.requires.3)) in record {
      moves = λ at depth l. name_moves c.if-strict.false at depth (omega arith) (omega arith) entered;
      judged = λ o a at so cs. name_judged c.requires.0 (so ∙ c.if-strict.false) cs _ c.of-len.ensures
          c.requires.3.size c.requires.3.few (sym k ∙ c.if-key_after_key.false) c.if-s-next.false
          (name-text c.args.s.now c.args.next _ c.requires.0
          c.is_utf8_name.ensures ∙ ap not c.if-not-is_utf8_name.false) entered;
    }
