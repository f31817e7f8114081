-- `note` finds a name or enters it. Assumes nothing.
use mathlib.Core.Path.{refl, sym}
use native.Mathlib.Omega.{arith}
use Rattle.symbols.specs.Names.{names_of}
use Rattle.symbols.proofs.EntryLaws.{key-lt, packed_marked, packed_name, packed_sound}
use Rattle.symbols.proofs.ChainLaws.{index-small}
use Rattle.symbols.proofs.names.Names.note.Goals as goal

pub find-requires : goal.find-requires
find-requires c = let p = c.requires.0 in (c.requires.1, p.low, p.high, p.short)

pub returns-then-self-ge-MAX_ENTRIES : goal.returns-then-self-ge-MAX_ENTRIES
returns-then-self-ge-MAX_ENTRIES c = (sym (rw c.in-None.is at c.find.ensures), c.if-self-ge-MAX_ENTRIES.true, refl)

pub pack-requires : goal.pack-requires
pack-requires c =
    let p = c.requires.0 in
    (p.sides, p.near, omega (arith, c.requires.1, key-lt c.args.kind c.args.content.now p.high p.short))

pub enter-requires : goal.enter-requires
enter-requires c = let p = c.requires.0 in
    let k = c.requires.1 in (
      c.if-self-ge-MAX_ENTRIES.false,
      rw c.pack.ensures (packed_sound _ _ _ _ _ _ _ k p.low p.high p.short p.sides p.inside p.is),
      rw (c.pack.ensures, packed_name _ _ _ _ _ _ _ k p.low p.high p.short p.sides p.inside p.is)
          (sym (rw c.in-None.is at c.find.ensures)),
    )

pub returns-in-Some : goal.returns-in-Some
unfolding names_of
returns-in-Some c =
    let i = sym (rw c.in-Some.is at c.find.ensures) in
    (i, index-small _ c.args.self.now.chained i, refl)

pub returns-else-self-ge-MAX_ENTRIES : goal.returns-else-self-ge-MAX_ENTRIES
returns-else-self-ge-MAX_ENTRIES c = let p = c.requires.0 in
    let k = c.requires.1 in
    let e = c.pack.ensures in
    record {
      new = sym (rw c.in-None.is at c.find.ensures);
      entry = _;
      grown = c.enter.ensures;
      named = rw (e, packed_name _ _ _ _ _ _ _ k p.low p.high p.short p.sides p.inside p.is);
      begins = rw e (packed_marked _ _ _ _ _ k p.sides p.short p.low p.high).start_is;
    }
