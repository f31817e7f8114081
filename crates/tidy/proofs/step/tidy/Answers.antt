-- `tidy::step::tidy` meets its contract, by what opening, canonicalizing and closing promise. Assumes nothing.
use native.Mathlib.Omega.{arith}
use Rattle.envelope.proofs.OpeningLaws.{opens}
use Rattle.tidy.proofs.TidyLaws.{canonical-fits, canonical-length, closes, unopened, unreadable}
use Rattle.tidy.proofs.step.tidy.Goals as goal

pub overflow_add-n : goal.overflow_add-n
overflow_add-n c =
    let j = opens _ (rw c.in-Ok.is at c.bundle_len.ensures) in omega (arith, j.0)

pub slice_bounds-closed-end : goal.slice_bounds-closed-end
slice_bounds-closed-end c =
    let a = c.args in
    let opened = rw c.in-Ok.is at c.bundle_len.ensures in
    let canonical = rw c.in-Ok-canonicalize.is at c.canonicalize.ensures in
    canonical-fits 0 a.bytes.now a.out.now _ _ _ c.requires.0 opened c.«open».ensures _ canonical

pub slice_bounds-closed-end-in-Ok-canonicalize : goal.slice_bounds-closed-end-in-Ok-canonicalize
slice_bounds-closed-end-in-Ok-canonicalize c =
    let a = c.args in
    let opened = rw c.in-Ok.is at c.bundle_len.ensures in
    let canonical = rw c.in-Ok-canonicalize.is at c.canonicalize.ensures in
    canonical-length 0 a.bytes.now a.out.now _ _ _ c.requires.0 opened c.«open».ensures _ canonical

pub returns-in-Err : goal.returns-in-Err
returns-in-Err c =
    λ k. unopened k _ _ (rw c.in-Err.is at c.bundle_len.ensures) c.refused.ensures

pub returns-in-Err-canonicalize : goal.returns-in-Err-canonicalize
returns-in-Err-canonicalize c =
    let opened = rw c.in-Ok.is at c.bundle_len.ensures in
    let unread = rw c.in-Err-canonicalize.is at c.canonicalize.ensures in
    λ k. unreadable k _ _ _ _ _ c.requires.0 opened c.«open».ensures unread c.refused-in-Err-canonicalize.ensures

pub returns-in-Ok-canonicalize : goal.returns-in-Ok-canonicalize
returns-in-Ok-canonicalize c =
    let opened = rw c.in-Ok.is at c.bundle_len.ensures in
    let canonical = rw c.in-Ok-canonicalize.is at c.canonicalize.ensures in
    λ k. closes k _ _ _ _ _ c.requires.0 opened c.«open».ensures _ canonical c.requires.1 c.closed.ensures
