-- Numbers in bytes: what is written is read, and what is read is written. Assumes nothing.
use Rattle.std.specs.Prelude.{◌≡◌, ℕ, ◌+◌, ◌*◌, ◌/◌, ◌%◌, ◌^◌, ◌<◌, ◌≤◌, List, [], ◌∷◌, map, length, take, drop, slice_index, refl}
use Rattle.std.proofs.Common.{sym, ap, ◌∙◌, to_z, of_z, arith, rules}
use Rattle.std.specs.Int.{w32}
use Rattle.std.specs.List.{range_with_len}
use Rattle.std.proofs.lemmas.List.FromFn.{fill_by_all}
use Rattle.std.proofs.lemmas.List.{get_or-take, get_or-drop, length-drop, length-take}
use Rattle.std.proofs.lemmas.Nat.{mod-mul-add, div-mul-add}
use Rattle.std.proofs.lemmas.Int.{of_z-to_z}
use Rattle.records.specs.Words.{le2, le4, bytes2, bytes4, Bytes}

-- a list of n bytes, written out
pub spelled : (b : List ℕ) (n : ℕ) → length b ≡ n → map (λ k. slice_index b k) (range_with_len 0 n) ≡ b
spelled b n e = sym (fill_by_all (λ k. slice_index b k) b n 0 e (λ k h. refl))

-- the digits of a + b * w, where a is below w
low : (a b w n : ℕ) → a < w → n ≡ b * w + a → n % w ≡ a
low a b w n p e = rw e (mod-mul-add b w a p)

high : (a b w n : ℕ) → a < w → n ≡ b * w + a → n / w ≡ b
high a b w n p e = rw e (div-mul-add b w a p)

bytes2_le2 : (x y : ℕ) → x < 256 → y < 256 → bytes2 (x + y * 256) ≡ x ∷ y ∷ []
bytes2_le2 x y p q =
    let a = low x y 256 (x + y * 256) p (omega arith) in
    let b = high x y 256 (x + y * 256) p (omega arith) in
    let b' = low y 0 256 y q (omega arith) in
    cc

bytes4_le4 : (x y z w : ℕ) → x < 256 → y < 256 → z < 256 → w < 256 → bytes4 (x + y * 256 + z * 65536 + w * 16777216) ≡ x ∷ y ∷ z ∷ w ∷ []
bytes4_le4 x y z w p q r s =
    let n : ℕ = x + y * 256 + z * 65536 + w * 16777216 in
    let a = low x (y + z * 256 + w * 65536) 256 n p (omega arith) in
    let b = high x (y + z * 256 + w * 65536) 256 n p (omega arith) in
    let b' = low y (z + w * 256) 256 (y + z * 256 + w * 65536) q (omega arith) in
    let c = high (x + y * 256) (z + w * 256) 65536 n (omega arith) (omega arith) in
    let c' = low z w 256 (z + w * 256) r (omega arith) in
    let d = high (x + y * 256 + z * 65536) w 16777216 n (omega arith) (omega arith) in
    let d' = low w 0 256 w s (omega arith) in
    cc

-- the number that was read at place i, written again
module _ (b : List ℕ) (h : Bytes b) (i : ℕ) where
  pub half_again : i + 2 ≤ length b → bytes2 (le2 b i) ≡ slice_index b i ∷ slice_index b (i + 1) ∷ []
  half_again l = bytes2_le2 (slice_index b i) (slice_index b (i + 1)) (h i (omega arith)) (h (i + 1) (omega arith))

  pub word_again : i + 4 ≤ length b → bytes4 (le4 b i) ≡ slice_index b i ∷ slice_index b (i + 1) ∷ slice_index b (i + 2) ∷ slice_index b (i + 3) ∷ []
  word_again l =
      bytes4_le4 (slice_index b i) (slice_index b (i + 1)) (slice_index b (i + 2)) (slice_index b (i + 3)) (h i (omega arith)) (h (i + 1) (omega arith))
      (h (i + 2) (omega arith)) (h (i + 3) (omega arith))

  pub word_small : i + 4 ≤ length b → le4 b i < 2 ^ 32
  word_small l =
      let p = h i (omega arith) in
      let q = h (i + 1) (omega arith) in
      let r = h (i + 2) (omega arith) in
      let s = h (i + 3) (omega arith) in
      omega arith

  pub signed_again : i + 4 ≤ length b → bytes4 (of_z w32 (to_z w32 (le4 b i))) ≡ slice_index b i ∷ slice_index b (i + 1) ∷ slice_index b (i + 2) ∷ slice_index b (i + 3) ∷ []
  signed_again l = ap bytes4 (of_z-to_z w32 (le4 b i) (word_small l)) ∙ word_again l

-- the number that was written, read again
pub half_back : (x : ℕ) → x < 2 ^ 16 → le2 (bytes2 x) 0 ≡ x
half_back x h = search rules

pub word_back : (x : ℕ) → x < 2 ^ 32 → le4 (bytes4 x) 0 ≡ x
word_back x h = search rules

-- a number within the first n bytes is read from them alone
pub le2_take : (n : ℕ) (b : List ℕ) (i : ℕ) → i + 2 ≤ n → le2 (take n b) i ≡ le2 b i
le2_take n b i h = omega (arith, get_or-take n b i 0 (omega arith), get_or-take n b (i + 1) 0 (omega arith))

pub le4_take : (n : ℕ) (b : List ℕ) (i : ℕ) → i + 4 ≤ n → le4 (take n b) i ≡ le4 b i
le4_take n b i h =
    omega (arith, get_or-take n b i 0 (omega arith), get_or-take n b (i + 1) 0 (omega arith), get_or-take n b (i + 2) 0 (omega arith), get_or-take n b (i + 3) 0 (omega arith))

-- what is left of bytes is bytes
pub bytes_drop : (n : ℕ) (b : List ℕ) → Bytes b → Bytes (drop n b)
bytes_drop n b h k l =
    let d = length-drop n b in
    let e = get_or-drop n b k 0 in
    let g = h (n + k) (omega arith) in
    omega arith

pub bytes_take : (n : ℕ) (b : List ℕ) → Bytes b → Bytes (take n b)
bytes_take n b h k l =
    let d = length-take n b in
    let e = get_or-take n b k 0 (omega arith) in
    let g = h k (omega arith) in
    omega arith
