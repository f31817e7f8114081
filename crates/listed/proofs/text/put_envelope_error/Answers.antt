-- `listed::text::put_envelope_error` meets its contract: there is room for the text, or nothing is written. Assumes nothing.
use native.Mathlib.Omega.{arith}
use Rattle.listed.specs.Text.{envelope_text}
use Rattle.listed.proofs.Texts.{envelope-short, put-none, put_all}
use Rattle.listed.proofs.text.put_envelope_error.Goals as goal

pub returns-then-out-lt-MAX_LEN : goal.returns-then-out-lt-MAX_LEN
returns-then-out-lt-MAX_LEN c = put-none c.args.out.now c.if-out-lt-MAX_LEN.true
    (envelope_text c.args.k c.args.number)

pub put_envelope-requires : goal.put_envelope-requires
put_envelope-requires c = omega (arith, envelope-short c.args.k c.args.number, c.if-out-lt-MAX_LEN.false)

pub returns : goal.returns
returns c =
    put_all c.args.out.now c.if-out-lt-MAX_LEN.false
    (envelope_text c.args.k c.args.number) c.put_envelope.ensures
