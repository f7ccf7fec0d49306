-- Places in the cells of a list. Assumes nothing.
use Rattle.std.proofs.Common.{◌≡◌, ℕ, zero, suc, ◌+◌, ◌-◌, ◌<◌, ◌≤◌, List, [], ◌∷◌, ◌++◌, length, take, drop, Some, slice_get, slice_set, None, refl, sym, ap, ◌∙◌, arith}
use Rattle.std.specs.List.{remove}
use Rattle.capped.specs.Values.{values}
use Rattle.capped.specs.declared.list.Capped.{Capped}
use Rattle.std.proofs.lemmas.Option.{slice_get_within}
use Rattle.std.proofs.lemmas.List.{append_assoc, drop-drop, drop-take, length-append, length-drop, length-take-le, take_at, take-take, take-append-le}

-- a place that holds a value is before the end, and the end is within the cells
pub record Held (i len size n : ℕ) : Type 0 where
  pub before : i < len
  pub within : len ≤ size
  pub whole : size ≡ n

pub found : {T : Type 0} {N : ℕ} (c : Capped T N) (i : ℕ) (x : T) → slice_get (values c) i ≡ Some x → Held i c.len (length c.cells) N
found c i x e =
    let l : c.len ≤ length c.cells = omega (arith, c.within.0, c.within.1) in
    record { before = omega (arith, slice_get_within (values c) i x e, length-take-le c.len c.cells l); within = l; whole = c.within.1 }

-- where no value is found, none is put and none is taken out
pub unset : {X : Type 0} (xs : List X) (i : ℕ) (x : X) → slice_get xs i ≡ None → slice_set xs i x ≡ xs
unset [] i x e = grind arith
unset (y ∷ xs) zero x e = grind arith
unset (y ∷ xs) (suc i) x e = ap (λ (ys : List _). y ∷ ys) (unset xs i x e)

pub unremoved : {X : Type 0} (xs : List X) (i : ℕ) → slice_get xs i ≡ None → remove xs i ≡ xs
unremoved [] zero e = refl
unremoved [] (suc i) e = refl
unremoved (y ∷ xs) zero e = grind arith
unremoved (y ∷ xs) (suc i) e = ap (λ (ys : List _). y ∷ ys) (unremoved xs i e)

-- the i-th of the first n moved behind them: without the last, that is the i-th removed
module _ {X : Type 0} (xs last post : List X) (i n : ℕ) (h : i < n) (l : n ≤ length xs)
    (e : last ≡ drop 1 (take (n - i) (drop i xs)) ++ take 1 (take (n - i) (drop i xs))) where
  moved : drop 1 (take (n - i) (drop i xs)) ≡ drop (suc i) (take n xs)
  moved =
      let k : i + (n - i) ≡ n = omega arith in
      let s : i + 1 ≡ suc i = omega arith in
      ap (drop 1) (sym (drop-take i (n - i) xs)) ∙ drop-drop 1 i (take (i + (n - i)) xs) ∙ ap (λ (m : ℕ). drop m (take (i + (n - i)) xs)) s ∙ ap (λ (m : ℕ). drop (suc i) (take m xs)) k

  pub rotated : take (n - 1) (take i xs ++ (last ++ post)) ≡ remove (take n xs) i
  rotated =
      let front = take i xs in
      let rest = drop 1 (take (n - i) (drop i xs)) in
      let turn = take 1 (take (n - i) (drop i xs)) in
      let a : length front ≡ i = length-take-le i xs (omega arith) in
      let m : length (take (n - i) (drop i xs)) ≡ n - i = length-take-le (n - i) (drop i xs) (omega (arith, length-drop i xs)) in
      let b : length rest ≡ n - i - 1 = length-drop 1 (take (n - i) (drop i xs)) ∙ ap (λ (k : ℕ). k - 1) m in
      let s : front ++ (last ++ post) ≡ (front ++ rest) ++ (turn ++ post) =
      ap (λ (z : List X). front ++ (z ++ post)) e ∙ ap (λ (z : List X). front ++ z) (append_assoc rest turn post) ∙ sym (append_assoc front rest (turn ++ post)) in
      ap (take (n - 1)) s ∙ take_at (front ++ rest) (turn ++ post) (n - 1) (omega (arith, length-append front rest))
      ∙ ap (λ (z : List X). front ++ z) moved ∙ ap (λ (z : List X). z ++ drop (suc i) (take n xs)) (sym (take-take i n xs (omega arith)))

-- the first m turned behind the others: what is then left of the first n
pub turned : {X : Type 0} (xs last : List X) (m n : ℕ) → m < n → n ≤ length xs → last ≡ drop m xs ++ take m xs → take (n - m) last ≡ drop m (take n xs)
turned {X} xs last m n h l e =
    let k : m + (n - m) ≡ n = omega arith in
    ap (take (n - m)) e ∙ take-append-le (n - m) (drop m xs) (take m xs) (omega (arith, length-drop m xs)) ∙ sym (drop-take m (n - m) xs)
    ∙ ap (λ (j : ℕ). drop m (take j xs)) k
