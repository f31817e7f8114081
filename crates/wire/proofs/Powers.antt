-- Bytes as digits to the base 256: shifted by whole bytes, a number is that of its first bytes. Assumes nothing.
use mathlib.Core.Path.{◌≡◌, refl, ap, sym, ◌∙◌}
use mathlib.Core.List.{List, [], ◌∷◌}
use Prim.Native.Nat.{ℕ, zero, suc, ◌+◌, ◌-◌, ◌*◌, ◌/◌, ◌^◌, ◌≤◌, ◌<◌}
use native.Mathlib.Nat.{div-one, div-div-eq-div-mul, pow-suc, pow-zero}
use native.Mathlib.Omega.{arith}
use lib.Arith.{digits_div}
use lib.ListN.{length, take, drop, get_or, length-drop, take-append-drop}
use lib.Pow.{pow-add}
use lib.Seq.{length-take-le, take-take}
use Rattle.format.specs.Header.{big_endian}
use Rattle.format.specs.WellFormed.{Byte, Bytes}
use Rattle.format.proofs.Lists.{all_drop, all_take}
use Rattle.format.proofs.Numbers.{big_endian-append, bytes_of}

pub pow_256 : (k : ℕ) → 256 ^ k ≡ 2 ^ (8 * k)
pow_256 zero = refl
pow_256 (suc k) =
    pow-suc 256 k ∙ ap (λ (x : ℕ). x * 256) (pow_256 k) ∙ sym (pow-add 2 (8 * k) 8) ∙ ap (λ (x : ℕ). 2 ^ x) (omega arith)

before : (acc : ℕ) (bs : List ℕ) → Bytes bs → big_endian acc bs / 256 ^ length bs ≡ acc
unfolding big_endian
before acc [] p = rw (pow-zero, div-one)
before acc (b ∷ bs) p =
    rw (
      pow-suc 256 (length bs),
      ← div-div-eq-div-mul (big_endian (acc * 256 + b) bs) (256 ^ length bs) 256,
      before (acc * 256 + b) bs p.1,
    ) (digits_div acc p.0)

-- The first n of m bytes.
pub first-bytes : (s : List ℕ) (n m : ℕ) → ((i : ℕ) → get_or s i 0 < 256) → m ≤ length s → n ≤ m
    → big_endian 0 (take m s) / 2 ^ (8 * (m - n)) ≡ big_endian 0 (take n s)
first-bytes s n m b l u =
    let xs = take m s in
    let long : length xs ≡ m = length-take-le m s l in
    let rest : length (drop n xs) ≡ m - n = length-drop n xs ∙ ap (λ (k : ℕ). k - n) long in
    let front : take n xs ≡ take n s = take-take n m s u in
    let whole : big_endian 0 xs ≡ big_endian (big_endian 0 (take n s)) (drop n xs) =
    ap (big_endian 0) (sym (take-append-drop n xs)) ∙ big_endian-append 0 (take n xs) (drop n xs)
    ∙ ap (λ (ys : List ℕ). big_endian (big_endian 0 ys) (drop n xs)) front in
    let small : Bytes (drop n xs) = all_drop Byte n xs (all_take Byte m s (bytes_of s (λ i _. b i))) in
    ap (λ (k : ℕ). big_endian 0 xs / k) (sym (pow_256 (m - n)) ∙ ap (λ (k : ℕ). 256 ^ k) (sym rest))
    ∙ ap (λ (x : ℕ). x / 256 ^ length (drop n xs)) whole ∙ before _ (drop n xs) small
