-- A header that stands in the bytes: its bounds, and which code is left over. Assumes nothing.
use Rattle.items.specs.declared.item.Refusal.{Refusal}
use Rattle.std.specs.Prelude.{Result}
use Rattle.std.specs.Prelude.{Some}
use mathlib.Core.Path.{◌≡◌, refl, sym, subst}
use mathlib.Core.Bool.{Bool, false, ◌&&◌, ◌||◌, and-false}
use mathlib.Core.List.{List}
use Prim.Native.Nat.{ℕ, ◌+◌, ◌-◌, ◌^◌, ◌≤◌, ◌<◌}
use native.Mathlib.Omega.{arith}
use lib.ListN.{length, drop, get_or, length-drop}
use Rattle.format.specs.declared.header.Header.{Header}
use Rattle.format.specs.Answer.{Answer}
use Rattle.format.specs.Limits.{max_inline}
use Rattle.format.specs.Header.{following, header_of, is_long, is_negative_alias}
use Rattle.format.specs.WellFormed.{Byte}
use Rattle.format.specs.Reading.{Options, State, headed, item}
use Rattle.format.proofs.Tests.{eqb_no, ltb_no}
use Rattle.format.proofs.Lists.{all_drop}
use Rattle.format.proofs.Numbers.{bytes_of}
use Rattle.format.proofs.Headers.{following-none, size-within, headed_of}
use Rattle.items.specs.declared.item.Out.{Out}
use Rattle.items.specs.Judging.{Fair, Stands, Moved, Judged, Case}
use Rattle.items.proofs.Ladder.{whole}

pub record Standing (s : List ℕ) (at : ℕ) (h : Header) : Type 0 where
  pub inside : at + h.size ≤ length s
  pub some : 0 < h.size
  pub codes : h.code < 8

pub standing : (s : List ℕ) (at : ℕ) (h : Header) → at ≤ length s → ((i : ℕ) → get_or s i 0 < 256)
    → Some h ≡ header_of (drop at s) → Standing s at h
standing s at h l b e =
    let w = size-within (drop at s) h (sym e) in
    let d = length-drop at s in
    record {
      inside = omega (arith, w.0, w.1);
      some = omega (arith, w.0);
      codes = (headed_of (drop at s) h (all_drop Byte at s (bytes_of s (λ i _. b i))) (sym e)).codes;
    }

-- A header of one byte is the shortest, and no alias.
pub one_byte : (s : List ℕ) (at : ℕ) (h : Header) → ((i : ℕ) → get_or s i 0 < 256) → Some h ≡ header_of (drop at s)
    → h.size ≡ 1 → is_long h || is_negative_alias h ≡ false
unfolding is_long is_negative_alias
one_byte s at h b e z =
    let d = headed_of (drop at s) h (all_drop Byte at s (bytes_of s (λ i _. b i))) (sym e) in
    let n : following h.code h.sz ≡ 0 = omega (arith, d.size) in
    let l = following-none h.code h.sz n in
    rw (ltb_no {a = max_inline} {b = h.sz} (omega arith), eqb_no {a = h.payload} {b = 2 ^ 64 - 1} (λ q. absurd (omega (arith, d.inside n))), and-false)

pub past_header : {strict : Bool} {s es links : List ℕ} {at names : ℕ} {h : Header} → Standing s at h
    → Fair strict s es links names → Moved strict s es links at (at + h.size) names
past_header st f = record { on = omega (arith, st.some); within = st.inside; fair = f }

pub case : {strict : Bool} {s es : List ℕ} {at names keyed : ℕ} {h : Header} {o : Options} {a : State}
    → o.strict ≡ strict → strict && (is_long h || is_negative_alias h) ≡ false → Stands s es at names keyed a
    → Case s es at names keyed (at + h.size) h o a
case {h = h} so e st = record {
  short = subst (λ (b : Bool). b && (is_long h || is_negative_alias h) ≡ false) (sym so) e;
  stands = st;
  size = refl;
}

pub judged_item : (s es : List ℕ) (names : ℕ) (o : Options) (a : State) {h : Header} (bs : List ℕ) (r : Result Out Refusal)
    → Some h ≡ header_of bs → Judged o s es names a (headed o a (Some h) bs) r
    → Judged o s es names a (item o a bs) r
judged_item s es names o a {h} bs r e j = subst (λ (v : Answer State). Judged o s es names a v r) (sym (whole o a bs h e)) j
