-- A bundle written whole: before its first item, one item after the other, and at its end. Assumes nothing.
use mathlib.Core.Path.{◌≡◌, ap, sym, ◌∙◌, subst}
use mathlib.Core.List.{List, ◌++◌, append_assoc, append-nil}
use Prim.Native.Nat.{ℕ, ◌≤◌}
use native.Mathlib.Nat.{le_trans}
use native.Mathlib.Omega.{arith}
use lib.ListN.{length, drop, replicate, length-append, length-drop, length-replicate}
use Rattle.format.specs.Item.{Item}
use Rattle.format.specs.Reading.{State, items_of, lenient, start}
use Rattle.format.specs.Canonical.{canonical}
use Rattle.encoder.proofs.PutLaws.{canonical-within}
use Rattle.format.proofs.ReadBack.{reading-reads}
use Rattle.format.proofs.Turns.{all_read}
use Rattle.format.proofs.Steps.{read_items, reads-found, reads-run, run-reads}
use Rattle.rewriter.specs.declared.putting.Spot.{Spot}
use Rattle.rewriter.specs.Putting.{Planning, Put, Putting}
use Rattle.rewriter.proofs.MapLaws.{mapped-start}

-- Only the counts matter.
pub put_as : {zs : List Item} {old new : List ℕ} {w r : Spot} → Put zs old new w → r.row ≡ w.row → r.out ≡ w.out → Put zs old new r
put_as p er eo = record { row = p.row ∙ sym er; puts = rw eo p.puts }

-- What is written fits, and the buffer stays as long as it was.
put-kept : {zs : List Item} {old new : List ℕ} {w : Spot} → Put zs old new w → (ws : List Item)
    → length (canonical (zs ++ ws)) ≤ length old → length new ≡ length old
put-kept {zs} {old} p ws l =
    let m = le_trans (canonical-within zs ws) l in
    ap length p.puts.1 ∙ length-append (canonical zs) (drop (length (canonical zs)) old)
    ∙ omega (arith, m, length-drop (length (canonical zs)) old)

module _ {s : List ℕ} {zs ws : List Item} {u : State} {plan old : List ℕ} (g : Planning s zs ws u plan (length old))
    {new : List ℕ} {w : Spot} where
  -- before the first item
  pub put-start : Put zs old new w → w.at ≡ 0 → Putting s zs u old new w
  unfolding start items_of
  put-start p e =
      record {
        state = start;
        offset = sym e;
        reads = reads-run (reading-reads s g.reads).1;
        to = replicate 256 0;
        width = length-replicate {A = ℕ} 256 0;
        few = omega arith;
        mapped = mapped-start _ _;
        put = rw (append-nil zs) p;
      }

  -- none is left
  pub put-end : Putting s zs u old new w → length s ≤ w.at → Put (zs ++ items_of u.found) old new w
  put-end p l =
      let e = all_read lenient s p.state p.reads (omega (arith, p.offset)) in
      subst (λ (v : State). Put (zs ++ items_of v.found) old new w) e p.put

  pub kept : {new' : List ℕ} {w' : Spot} → Put zs old new' w' → Putting s zs u old new w → length new ≡ length new'
  kept q p =
      let r = run-reads (drop p.state.at s) p.reads in
      let e : (zs ++ items_of u.found) ++ ws ≡ (zs ++ items_of p.state.found) ++ (read_items r ++ ws) =
      ap (λ (l : List Item). (zs ++ l) ++ ws) (reads-found r)
      ∙ ap (λ (l : List Item). l ++ ws) (sym (append_assoc zs (items_of p.state.found) (read_items r)))
      ∙ append_assoc (zs ++ items_of p.state.found) (read_items r) ws in
      put-kept p.put (read_items r ++ ws) (rw e at g.fits)
      ∙ sym (put-kept q (items_of u.found ++ ws) (rw (append_assoc zs (items_of u.found) ws) at g.fits))
