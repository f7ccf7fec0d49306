-- A header, a payload, padding and a rest, in a list of bytes. Assumes nothing.
use Rattle.std.proofs.Common.{◌≡◌, ℕ, ◌+◌, ◌-◌, ◌<◌, ◌≤◌, List, ◌++◌, length, get_or, take, drop, ap, ◌∙◌, arith}
use Rattle.std.proofs.lemmas.List.{length-append, append_assoc, get_or_append_left, take_at, drop_at, take-append-drop, drop-drop}
use Rattle.records.specs.Words.{le2, le4}

module _ (b h p z r : List ℕ) (w : ℕ) (e : b ≡ h ++ (p ++ (z ++ r))) (l : length h ≡ w) where
  pub size : length b ≡ w + length p + length z + length r
  size = ap length e ∙ simp length-append (omega arith)

  byte : (i : ℕ) → i < w → get_or b i 0 ≡ get_or h i 0
  byte i q = ap (λ (x : List ℕ). get_or x i 0) e ∙ get_or_append_left h (p ++ (z ++ r)) 0 i (omega arith)

  pub le2_front : (i : ℕ) → i + 2 ≤ w → le2 b i ≡ le2 h i
  le2_front i q = omega (arith, byte i (omega arith), byte (i + 1) (omega arith))

  pub le4_front : (i : ℕ) → i + 4 ≤ w → le4 b i ≡ le4 h i
  le4_front i q = omega (arith, byte i (omega arith), byte (i + 1) (omega arith), byte (i + 2) (omega arith), byte (i + 3) (omega arith))

  pub payload_at : (n : ℕ) → n ≡ w + length p → take (n - w) (drop w b) ≡ p
  payload_at n q = ap (λ (x : List ℕ). take (n - w) (drop w x)) e ∙ ap (take (n - w)) (drop_at h (p ++ (z ++ r)) w l) ∙ take_at p (z ++ r) (n - w) (omega arith)

  pub rest_at : (k : ℕ) → k ≡ w + length p + length z → drop k b ≡ r
  rest_at k q =
      let a : b ≡ (h ++ (p ++ z)) ++ r = e ∙ simp append_assoc in
      let s : length (h ++ (p ++ z)) ≡ k = simp length-append (omega arith) in
      ap (drop k) a ∙ drop_at (h ++ (p ++ z)) r k s

pub split : (b : List ℕ) (w n k : ℕ) → w ≤ n → n ≤ k → b ≡ take w b ++ (take (n - w) (drop w b) ++ (take (k - n) (drop n b) ++ drop k b))
split b w n k p q =
    let a = take-append-drop w b in
    let c = take-append-drop (n - w) (drop w b) in
    let d = drop-drop (n - w) w b in
    let s : w + (n - w) ≡ n = omega arith in
    let f = take-append-drop (k - n) (drop n b) in
    let g = drop-drop (k - n) n b in
    let t : n + (k - n) ≡ k = omega arith in
    cc
