-- A bundle measured whole: before its first item, one item after the other, and at its end. Assumes nothing.
use mathlib.Core.Path.{◌≡◌, ap, sym, ◌∙◌, subst}
use mathlib.Core.List.{List, ◌++◌, append-nil}
use Prim.Native.Nat.{ℕ, ◌≤◌}
use native.Mathlib.Omega.{arith}
use lib.ListN.{length}
use Rattle.format.specs.Item.{Item}
use Rattle.format.specs.Reading.{State, items_of, lenient, start}
use Rattle.format.proofs.ReadBack.{reading-reads}
use Rattle.format.proofs.Turns.{all_read}
use Rattle.format.proofs.Steps.{reads-run}
use Rattle.symbols.specs.declared.names.Names.{Names}
use Rattle.rewriter.specs.declared.measuring.Tally.{Tally}
use Rattle.rewriter.specs.Measuring.{Alike, Bundled, Partway, Further, Here, Begun, Over, Tallied, text_of}
use Rattle.rewriter.proofs.MapLaws.{mapped-start}
use Rattle.rewriter.proofs.MeasureSteps.{alike_self}

-- Where measuring has come to: the bundle s is a text still, and its items up to an offset are measured.
pub record Stage (old new : Names) (s : List ℕ) (side : ℕ) (zs : List Item) (u : State) (to plan : List ℕ) (t : Tally) : Type 0 where
  pub bundled : Bundled new s side zs u
  pub partway : Partway new s zs u to plan t
  pub alike : Alike old new

-- before the first item
pub stage-start : {names : Names} {s : List ℕ} {side : ℕ} {zs : List Item} {u : State} {plan : List ℕ} {from t : Tally}
    (to : List ℕ) → Begun names side zs u plan from → s ≡ text_of names side
    → t.at ≡ 0 → t.entries ≡ 0 → t.row ≡ from.row → t.size ≡ from.size → length to ≡ 256 → Stage names names s side zs u to plan t
unfolding start items_of
stage-start {names} {s} {side} {zs = zs} {from} to g es ea ee er ez width =
    rw es
    (record {
      bundled = g.bundled;
      partway = record {
        state = start;
        offset = sym ea;
        reads = reads-run (reading-reads (text_of names side) g.reads).1;
        entries = sym ee;
        few = omega arith;
        width = width;
        mapped = mapped-start to _;
        row = ap length (append-nil zs) ∙ g.before.row ∙ sym er;
        small = rw (er, ez) g.before.small;
        measured = rw (append-nil zs, ez) g.before.measured;
      };
      alike = alike_self;
    })

module _ {old names : Names} {s : List ℕ} {side : ℕ} {zs : List Item} {u : State} {to plan : List ℕ} {t : Tally}
    (g : Stage old names s side zs u to plan t) where
  -- an item is left
  pub stage_here : Here names s side to plan t
  stage_here = record { zs = zs; u = u; bundled = g.bundled; partway = g.partway }

  pub stage-next : {new : Names} {to' plan' : List ℕ} {r : Tally} → Further names new s zs u to' plan' t r
      → Stage old new s side zs u to' plan' r
  stage-next o =
      record {
        bundled = record {
          sides = g.bundled.sides;
          which = rw (o.alike.first, o.alike.second) g.bundled.which;
          short = g.bundled.short;
          room = g.bundled.room;
        };
        partway = o.partway;
        alike = record { first = o.alike.first ∙ g.alike.first; second = o.alike.second ∙ g.alike.second };
      }

  -- there are too many names
  pub stage-over : {new : Names} → Over zs u × Alike names new → Over zs u × Alike old new
  stage-over o = (o.0, record { first = o.1.first ∙ g.alike.first; second = o.1.second ∙ g.alike.second })

  -- none is left
  pub stage-end : length s ≤ t.at → Tallied names plan (zs ++ items_of u.found) t × Alike old names
  stage-end l =
      let p = g.partway in
      let e = all_read lenient s p.state p.reads (omega (arith, p.offset)) in (
        subst (λ (v : State). Tallied names plan (zs ++ items_of v.found) t) e
            (record { row = p.row; small = p.small; measured = p.measured }),
        g.alike,
      )
