-- A record that was written at a place is read there. Assumes nothing but the record's laws.
use Rattle.std.proofs.Common.{◌≡◌, ℕ, ◌≤◌, List, ◌++◌, length, take, drop}
use Rattle.std.proofs.lemmas.List.{length-take-le, take_at, drop_at}

module _ {R : Type 0} (wide : ℕ) (bytes : R → List ℕ) (of : List ℕ → R) (fits : R → Type 0)
    (sized : (x : R) → length (bytes x) ≡ wide)
    (decodes : (x : R) → fits x → of (bytes x) ≡ x)
    (front : (b : List ℕ) → of (take wide b) ≡ of b) where
  pub back_at : (x : R) (xs r : List ℕ) (at : ℕ) → fits x → at ≤ length xs → of (drop at (take at xs ++ (bytes x ++ r))) ≡ x
  back_at x xs r at f l =
      let d = drop_at (take at xs) (bytes x ++ r) at (length-take-le at xs l) in
      let t = take_at (bytes x) r wide (sized x) in
      let g = front (bytes x ++ r) in
      let e = decodes x f in
      cc
