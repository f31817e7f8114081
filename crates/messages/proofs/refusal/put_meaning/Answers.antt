-- `messages::refusal::put_meaning` meets its contract: a colon and a space, the words, and the newline. Assumes nothing.
use native.Mathlib.Omega.{arith}
use Rattle.ascii.specs.Text.{ascii}
use Rattle.ascii.proofs.Writing.{room, fits, next, next_byte, ends}
use Rattle.messages.proofs.Texts.{colon_fits, colon_put}
use Rattle.messages.proofs.refusal.put_meaning.Goals as goal

pub copy-a-requires : goal.copy-a-requires
unfolding ascii
copy-a-requires c =
    colon_fits c.args.error c.args.out.now c.requires

pub copy-requires : goal.copy-requires
unfolding ascii
copy-requires c =
    let p = colon_put c.args.error c.args.out.now c.requires c.copy-a.ensures in
    rw c.words.ensures (fits p)

pub bounds-out-b : goal.bounds-out-b
unfolding ascii
bounds-out-b c =
    let p = colon_put c.args.error c.args.out.now c.requires c.copy-a.ensures in
    let q = next p _ _ (rw c.words.ensures at c.copy.ensures) in
    omega (arith, room q)

pub returns : goal.returns
unfolding ascii
returns c =
    let p = colon_put c.args.error c.args.out.now c.requires c.copy-a.ensures in
    let q = next p _ _ (rw c.words.ensures at c.copy.ensures) in
    ends (next_byte q)
