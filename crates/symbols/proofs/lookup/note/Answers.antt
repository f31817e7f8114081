-- `note` finds a name or enters it. Assumes nothing.
use mathlib.Core.Path.{refl, sym}
use native.Mathlib.Omega.{arith}
use Rattle.symbols.proofs.EntryLaws.{key-lt, packed_marked, packed_name, packed_sound}
use Rattle.symbols.proofs.ChainLaws.{index-small}
use Rattle.symbols.proofs.lookup.note.Goals as goal

pub returns-then-count-ge-MAX_ENTRIES : goal.returns-then-count-ge-MAX_ENTRIES
returns-then-count-ge-MAX_ENTRIES c = (sym (rw c.in-None.is at c.find.ensures), c.if-count-ge-MAX_ENTRIES.true)

pub pack-requires : goal.pack-requires
pack-requires c =
    let p = c.requires.1 in
    (p.sides, p.near, omega (arith, c.requires.2, key-lt c.args.kind c.args.content.now p.high p.short))

pub enter-requires : goal.enter-requires
enter-requires c = let p = c.requires.1 in
    let k = c.requires.2 in (
      c.requires.0,
      c.if-count-ge-MAX_ENTRIES.false,
      rw c.pack.ensures (packed_sound _ _ _ _ _ _ _ k p.low p.high p.short p.sides p.inside p.is),
      rw (c.pack.ensures, packed_name _ _ _ _ _ _ _ k p.low p.high p.short p.sides p.inside p.is)
          (sym (rw c.in-None.is at c.find.ensures)),
    )

pub returns-in-Some : goal.returns-in-Some
returns-in-Some c =
    let i = sym (rw c.in-Some.is at c.find.ensures) in
    (i, index-small _ c.requires.0 i, refl, refl)

pub returns-else-count-ge-MAX_ENTRIES : goal.returns-else-count-ge-MAX_ENTRIES
returns-else-count-ge-MAX_ENTRIES c = let p = c.requires.1 in
    let k = c.requires.2 in
    let e = c.pack.ensures in
    record {
      new = sym (rw c.in-None.is at c.find.ensures);
      room = c.if-count-ge-MAX_ENTRIES.false;
      entry = _;
      stored = c.enter.ensures.stored;
      named = rw (e, packed_name _ _ _ _ _ _ _ k p.low p.high p.short p.sides p.inside p.is);
      begins = rw e (packed_marked _ _ _ _ _ k p.sides p.short p.low p.high).start_is;
      chained = c.enter.ensures.chained;
    }
