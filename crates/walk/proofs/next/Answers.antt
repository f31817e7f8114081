-- `next` is the item of the header at the offset, and there is one. Assumes nothing.
use Rattle.walk.proofs.Steps.{whole}
use Rattle.walk.proofs.next.Goals as goal

pub headed-requires : goal.headed-requires
headed-requires c =
    (c.args.s.now, c.requires, rw c.in-Some.is at c.header_at.ensures)

pub returns-in-None : goal.returns-in-None
returns-in-None c =
    λ o u s p. whole p c.requires.left (rw c.in-None.is at c.header_at.ensures)

pub returns-in-Some : goal.returns-in-Some
returns-in-Some c =
    c.headed.ensures c.args.s.now
    (rw c.in-Some.is at c.header_at.ensures)
