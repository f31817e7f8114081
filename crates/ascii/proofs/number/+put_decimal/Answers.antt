-- `ascii::number::put_decimal` meets its contract: one digit, two, or those of a hundredth and then the last two. The
-- number falls. Assumes nothing.
use native.Mathlib.Omega.{arith}
use Rattle.ascii.proofs.Writing.{room, next_byte, ends}
use Rattle.ascii.proofs.Decimals.{one_digit, two_digits, hundredth_fits, last_digits}
use Rattle.ascii.proofs.number.+put_decimal.Goals as goal

pub bounds-out-0 : goal.bounds-out-0
bounds-out-0 t c =
    let q = one_digit c.args.n c.args.out.now c.requires c.if-n-lt10.true in
    omega (arith, room q)

pub returns-then-n-lt10 : goal.returns-then-n-lt10
returns-then-n-lt10 t c =
    let q = one_digit c.args.n c.args.out.now c.requires c.if-n-lt10.true in
    ends (next_byte q)

pub bounds-out-0-then-n-lt100 : goal.bounds-out-0-then-n-lt100
bounds-out-0-then-n-lt100 t c =
    let q = two_digits c.args.n c.args.out.now c.requires c.if-n-lt10.false c.if-n-lt100.true in
    omega (arith, room q)

pub bounds-out-1 : goal.bounds-out-1
bounds-out-1 t c =
    let q = two_digits c.args.n c.args.out.now c.requires c.if-n-lt10.false c.if-n-lt100.true in
    omega (arith, room (next_byte q))

pub returns-then-n-lt100 : goal.returns-then-n-lt100
returns-then-n-lt100 t c =
    let q = two_digits c.args.n c.args.out.now c.requires c.if-n-lt10.false c.if-n-lt100.true in
    ends (next_byte (next_byte q))

pub put_decimal-at-requires : goal.put_decimal-at-requires
put_decimal-at-requires t c =
    (omega arith, hundredth_fits c.args.n c.args.out.now c.requires c.if-n-lt100.false c.ranges.n.fits)

pub bounds-out-at : goal.bounds-out-at
bounds-out-at t c =
    let q = last_digits c.args.n c.args.out.now c.requires c.if-n-lt100.false
    c.ranges.n.fits _ _ c.put_decimal-at.ensures in
    omega (arith, room q)

pub bounds-out-at-2 : goal.bounds-out-at-2
bounds-out-at-2 t c =
    let q = last_digits c.args.n c.args.out.now c.requires c.if-n-lt100.false
    c.ranges.n.fits _ _ c.put_decimal-at.ensures in
    omega (arith, room (next_byte q))

pub returns : goal.returns
returns t c =
    let q = last_digits c.args.n c.args.out.now c.requires c.if-n-lt100.false
    c.ranges.n.fits _ _ c.put_decimal-at.ensures in
    let e = ends (next_byte (next_byte q)) in
    (omega (arith, e.0), e.1)
