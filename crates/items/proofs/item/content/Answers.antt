-- `content` judges bytes and strings. Assumes nothing.
use native.Mathlib.Omega.{arith}
use mathlib.Core.Path.{◌∙◌}
use Rattle.items.proofs.Contents.{content-cut, content-text, content-value, body_key, body_text}
use Rattle.items.proofs.item.content.Goals as goal

pub returns-then-s-next : goal.returns-then-s-next
returns-then-s-next c =
    record {
      moves = λ strict es links at names depth m. tt;
      judged = λ es o a at names keyed cs. content-cut cs _ c.of-len.ensures _
          c.requires.0.form c.requires.0.plain (body_key c.args.s.now c.args.next _ keyed c.requires.0) c.if-s-next.true;
    }

pub returns-then-bad_text : goal.returns-then-bad_text
returns-then-bad_text c =
    record {
      moves = λ strict es links at names depth m. (omega arith, omega arith);
      judged = λ es o a at names keyed cs. content-text cs _ c.of-len.ensures _
          c.requires.0.form c.requires.0.plain (body_key c.args.s.now c.args.next _ keyed c.requires.0)
          c.if-s-next.false (body_text c.args.s.now c.args.next _ c.requires.0
          c.bad_text.ensures ∙ c.if-bad_text.true);
    }

pub returns : goal.returns
returns c =
    record {
      moves = λ strict es links at names depth m. record {
        on = omega (arith, m.on);
        within = omega arith;
        fair = m.fair;
      };
      judged = λ es o a at names keyed cs. content-value cs _ c.of-len.ensures _ c.requires.0.form c.requires.0.plain
          (body_key c.args.s.now c.args.next _ keyed c.requires.0) c.if-s-next.false
          (body_text c.args.s.now c.args.next _ c.requires.0 c.bad_text.ensures ∙ c.if-bad_text.false)
          c.requires.0.low;
    }
