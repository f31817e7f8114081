-- `one` judges an item by its header, if that is whole. Assumes nothing.
use Rattle.items.proofs.Ladder.{cut}
use Rattle.items.proofs.Heads.{judged_item}
use Rattle.items.proofs.item.one.Goals as goal

pub judge-requires : goal.judge-requires
judge-requires c =
    ((rw c.in-Some.is at c.header_at.ensures), c.requires.0, c.requires.1, c.requires.2)

pub returns-in-None : goal.returns-in-None
returns-in-None c = record {
  moves = tt;
  judged = λ o a so hold d. cut o a _ (rw c.in-None.is at c.header_at.ensures);
}

pub returns-in-Some : goal.returns-in-Some
returns-in-Some c =
    record {
      moves = c.judge.ensures.moves;
      judged = λ o a so hold d. judged_item c.args.s.now _ c.args.names o a _ c.judge.result
          (rw c.in-Some.is at c.header_at.ensures) (c.judge.ensures.judged o a so hold d);
    }
