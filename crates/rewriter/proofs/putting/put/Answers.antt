-- `rewriter::putting::put` meets its contract: the loop keeps `Putting`, and each item takes bytes. Assumes nothing.
use mathlib.Core.Path.{refl}
use native.Mathlib.Omega.{arith}
use Rattle.rewriter.proofs.PutLoop.{put_as, put-start, put-end, kept}
use Rattle.rewriter.proofs.putting.put.Goals as goal

pub loop-w-init : goal.loop-w-init
loop-w-init c = λ zs ws u old g p. put-start g p refl

pub item-w-requires : goal.item-w-requires
item-w-requires c = (
  record {
    zs = c.requires.zs;
    ws = c.requires.ws;
    u = c.requires.u;
    old = c.requires.old;
    planning = c.requires.planning;
    putting = c.loop-w.invariant _ _ _ _ c.requires.planning (put_as c.requires.put refl refl);
  },
  c.loop-w-test.true,
)

pub loop-w-smaller : goal.loop-w-smaller
loop-w-smaller c =
    omega (arith, (c.item-w.ensures _ _ _ _ c.requires.planning (c.loop-w.invariant _ _ _ _ c.requires.planning (put_as c.requires.put refl refl))).ahead, c.loop-w-test.true)

pub loop-w-preserved : goal.loop-w-preserved
loop-w-preserved c =
    λ zs ws u old g p. (c.item-w.ensures zs ws u old g (c.loop-w.invariant zs ws u old g p)).putting

pub shape_of-out : goal.shape_of-out
shape_of-out c =
    kept c.requires.planning c.requires.put (c.loop-w.invariant _ _ _ _ c.requires.planning (put_as c.requires.put refl refl))

pub returns : goal.returns
returns c = λ zs ws u old g p. put-end g (c.loop-w.invariant zs ws u old g (put_as p refl refl)) c.loop-w-test.false
