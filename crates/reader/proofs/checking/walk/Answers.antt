-- `walk` counts what reading counts: more fields are asked for than there are bytes, so the bytes end first. Assumes nothing.
use Rattle.std.proofs.lemmas.Result.{err_from_is_err_and}
use native.Mathlib.Omega.{arith}
use mathlib.Core.Path.{◌≡◌, sym, ◌∙◌}
use Prim.Native.Nat.{ℕ, ◌+◌, min}
use Rattle.format.specs.Limits.{max_bytes, max_rows}
use Rattle.format.specs.Reading.{options, start}
use Rattle.format.proofs.Tests.{eqb_yes, eqb_no}
use Rattle.reader.proofs.Tops.{fair-start, stands-start, row-start, outside, outside_lane, top-place, too_long, top-failed, top-keyed, top-good}
use Rattle.reader.proofs.checking.walk.Goals as goal

-- more than there are bytes
abbrev top_fields : ℕ
top_fields = max_bytes + 1

pub returns-then-bytes-gt-MAX_BYTES : goal.returns-then-bytes-gt-MAX_BYTES
returns-then-bytes-gt-MAX_BYTES c = λ n m. c.fail.ensures ∙ too_long (options c.args.mode n) _ c.if-bytes-gt-MAX_BYTES.true

pub fields-requires : goal.fields-requires
fields-requires c =
    (omega arith, c.if-bytes-gt-MAX_BYTES.false, rw c.new-entries.ensures (fair-start _ _))

pub returns-then-u-eq1 : goal.returns-then-u-eq1
returns-then-u-eq1 c =
    let args' = c.args in
    let a = args' in
    let w = rw (c.in_ok-all.was, c.in-End.is) at c.fields.ensures.went in
    λ n m.
    let o = options a.mode n in
    let r = rw (c.in_ok-all.was, c.in-End.is) at (c.fields.ensures.resumes (outside top_fields) o start (sym c.is_strict-strict.ensures)
    (outside_lane top_fields) (stands-start _ _) (row-start o a.most m) top-place) in
    c.fail-then-u-eq1.ensures ∙ top-keyed o a.bytes.now c.if-bytes-gt-MAX_BYTES.false r w.1 (eqb_yes c.if-u-eq1.true)

pub overflow_sub-most : goal.overflow_sub-most
overflow_sub-most c =
    let args' = c.args in
    let pre' = c.requires in
    let a = args' in
    let o = options a.mode a.most in
    let most : min max_rows a.most ≡ a.most = omega (arith, pre') in
    let r = rw (c.in_ok-all.was, c.in-End.is) at (c.fields.ensures.resumes (outside top_fields) o start (sym c.is_strict-strict.ensures)
    (outside_lane top_fields) (stands-start _ _) (row-start o a.most most) top-place) in
    omega (arith, r.row)

pub overflow_sub-left : goal.overflow_sub-left
overflow_sub-left c =
    let w = rw (c.in_ok-all.was, c.in-End.is) at c.fields.ensures.went in w.3

pub returns-in_err-all : goal.returns-in_err-all
returns-in_err-all c =
    let failed = err_from_is_err_and c.from_residual.result c.from_residual.ensures.1 in
    let args' = c.args in
    let a = args' in
    λ n m.
    let o = options a.mode n in
    let r = rw c.in_err-all.was at (c.fields.ensures.resumes (outside top_fields) o start
    (sym c.is_strict-strict.ensures) (outside_lane top_fields) (stands-start _ _) (row-start o a.most m) top-place) in
    rw (failed.1, failed.2) (top-failed o a.bytes.now c.if-bytes-gt-MAX_BYTES.false r)

pub returns-else-u-eq1 : goal.returns-else-u-eq1
returns-else-u-eq1 c =
    let args' = c.args in
    let a = args' in
    let w = rw (c.in_ok-all.was, c.in-End.is) at c.fields.ensures.went in
    λ n m.
    let o = options a.mode n in
    let r = rw (c.in_ok-all.was, c.in-End.is) at (c.fields.ensures.resumes (outside top_fields) o start (sym c.is_strict-strict.ensures)
    (outside_lane top_fields) (stands-start _ _) (row-start o a.most m) top-place) in
    rw c.new.ensures (top-good o a.bytes.now c.if-bytes-gt-MAX_BYTES.false r w.1 a.most m w.0.size w.0.few
    (eqb_no c.if-u-eq1.false))

pub returns-in-Good : goal.returns-in-Good
returns-in-Good c =
    let w = rw (c.in_ok-all.was, c.in-Good.is) at c.fields.ensures.went in absurd (omega (arith, w.1, w.2, c.if-bytes-gt-MAX_BYTES.false))
