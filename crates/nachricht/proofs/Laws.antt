-- The laws of writing and reading together: each proves a statement of specs/Laws. Assumes nothing.
use Rattle.std.specs.Prelude.{Ok}
use mathlib.Core.Path.{◌≡◌, sym, ap, ◌∙◌}
use Prim.Native.Nat.{ℕ}
use native.Mathlib.Omega.{arith}
use mathlib.Core.List.{List, map}
use lib.ListN.{length, take, length-map}
use Rattle.format.specs.declared.bundle.Bundle.{Bundle}
use Rattle.format.specs.declared.error.Mode.{Mode}
use Rattle.format.specs.declared.row.Row.{Row}
use Rattle.format.specs.Answer.{Answer, then}
use Rattle.format.specs.Reading.{State, counts, counts_of, items, items_of, options, reading}
use Rattle.format.specs.Rows.{item_at, items_at, row_of, rows}
use Rattle.format.specs.Writing.{writing}
use Rattle.format.proofs.Tests.{good_inj}
use Rattle.format.proofs.Lists.{length-items}
use Rattle.format.proofs.Steps.{then-good}
use Rattle.format.proofs.Stored.{Stored, stored-counted, stored-good}
use Rattle.format.proofs.ReadBack.{read_back}
use Rattle.format.proofs.Rows.{rows_mean}
use Rattle.format.proofs.Writes.{writing-written}
use Rattle.format.proofs.Laws.{rewriting_law}
use Rattle.reader.specs.Promises.{Read}
use Rattle.format.specs.Written.{Writes}
use Rattle.nachricht.specs.Laws.{RewritesCanonically, WrittenReadsBack}

-- ---- what a good answer leaves

-- What was written is the front of the buffer.
wrote_done : {result : Answer (List ℕ)} {old new : List ℕ} {n : ℕ} → Writes result old (Ok n) new → result ≡ Ok (take n new)
wrote_done {old = old} p = (stored-counted old _ p.buffer (sym p.answer)).0

-- Of a bundle that reads, the counts are answered, and its rows are the front of the table.
read-good : {mode : Mode} {bytes : List ℕ} {table table' : List Row} {r : Answer Bundle} {u : State}
    → Read mode bytes table r table' → reading (options mode (length table)) bytes ≡ Ok u
    → (r ≡ Ok (counts_of u)) × Stored table table' (map row_of u.found) (length u.found)
unfolding counts rows then
read-good {r = r} {u} p e = (p.answer ∙ rw e, stored-good p.filled (rw e) (length-map u.found row_of))

-- ---- the laws

-- `WritingLaw` asks for a table of 1,024 rows; by `read_back` one that holds the rows will do.
pub written-reads-back : WrittenReadsBack
unfolding counts_of
written-reads-back rs text old new n b w p mode table table' r l q =
    let o = options mode (length table) in
    let v = writing-written rs text (length old) b w (wrote_done p) in
    let f = v.fits in
    let same = length-map rs (item_at text) in
    let k = read_back o (items_at text rs) v.well_formed
    (record { rows = f.rows; table = rw same l; names = f.names }) (omega (arith, f.size)) in
    let e = ap (reading o) v.bytes ∙ k.reads in
    let (g, s) = read-good q e in
    let size = sym (length-items k.u.found) ∙ ap length k.found ∙ same in
    record {
      bundle = counts_of k.u;
      reads = g;
      size = size;
      meant = rw (← size, s.front) (rows_mean o _ e ∙ k.found);
      rest = rw (← size) s.rest;
    }

pub rewrites_canonically : RewritesCanonically
unfolding counts counts_of items then
rewrites_canonically mode bytes table table' b y p old new w q =
    let o = options mode (length table) in
    let (u, e, k) = then-good (reading o bytes) _ (sym p.answer) in
    let front : take b.rows table' ≡ map row_of u.found = ap (λ (c : Bundle). take c.rows table')
    (sym (good_inj k)) ∙ (read-good p e).1.front in
    let c = ap (λ (rs : List Row). writing rs bytes (length old)) front ∙ (rewriting_law o bytes (length old) y e).canonically in
    record {
      xs = items_of u.found;
      meant = ap (λ (a : Answer State). then a (λ t. Ok (items_of t.found))) e;
      writes = rw c at q;
    }
