-- `listed::line::put_first` meets its contract, by the case of the answer. Assumes nothing.
use Rattle.format.specs.Answer.{Answer}
use Rattle.format.specs.declared.bundle.Bundle.{Bundle}
use mathlib.Core.Path.{sym, ap, subst, subst⁻¹, ◌∙◌}
use mathlib.Core.List.{List}
use Prim.Native.Nat.{ℕ, ◌≤◌}
use lib.ListN.{length}
use Rattle.wire.specs.Output.{Puts}
use Rattle.ascii.specs.Text.{ascii}
use Rattle.listed.specs.Text.{at_word, bundle_line, first_line, refused_word}
use Rattle.listed.proofs.line.put_first.Goals as goal

pub put_bundle_line-requires : goal.put_bundle_line-requires
unfolding ascii first_line
put_bundle_line-requires c =
    let args' = c.args in
    let pre' = c.requires in
    let a = args' in
    let e = sym (ap (λ (r : Answer Bundle). first_line a.k r) c.in-Ok.is) in
    subst⁻¹ (λ (w : List ℕ). length w ≤ length a.out.now) e (pre')

pub put_bundle_line-requires-in-Err : goal.put_bundle_line-requires-in-Err
unfolding ascii first_line
put_bundle_line-requires-in-Err c =
    let args' = c.args in
    let pre' = c.requires in
    let a = args' in
    let f = c.in-Err.f in
    let e =
    ap (λ (n : ℕ). bundle_line a.k refused_word n at_word f.place) c.code.ensures
    ∙ sym (ap (λ (r : Answer Bundle). first_line a.k r) c.in-Err.is) in
    subst⁻¹ (λ (w : List ℕ). length w ≤ length a.out.now) e (pre')

pub returns-in-Ok : goal.returns-in-Ok
unfolding ascii first_line
returns-in-Ok c =
    let args' = c.args in
    let a = args' in
    let e = sym (ap (λ (r : Answer Bundle). first_line a.k r) c.in-Ok.is) in
    subst (λ (w : List ℕ). Puts w c.put_bundle_line.result a.out.now c.put_bundle_line.new.out) e c.put_bundle_line.ensures

pub returns-in-Err : goal.returns-in-Err
unfolding ascii first_line
returns-in-Err c =
    let args' = c.args in
    let a = args' in
    let f = c.in-Err.f in
    let e =
    ap (λ (n : ℕ). bundle_line a.k refused_word n at_word f.place) c.code.ensures
    ∙ sym (ap (λ (r : Answer Bundle). first_line a.k r) c.in-Err.is) in
    subst (λ (w : List ℕ). Puts w c.put_bundle_line-in-Err.result a.out.now c.put_bundle_line-in-Err.new.out) e c.put_bundle_line-in-Err.ensures
