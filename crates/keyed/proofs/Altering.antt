-- The one of a key altered, as another put in its place. Assumes nothing.
use Rattle.std.proofs.Common.{◌≡◌, Bool, true, false, cond, not, ◌||◌, List, [], ◌∷◌, map, Some, None, sym, refl, ap, ◌∙◌, arith}
use Rattle.std.specs.Option.{is_some}
use Rattle.requests.specs.Asks.{Key}
use Rattle.hosts.specs.Rules.{same_key}
use Rattle.keyed.specs.Keyed.{taken, distinct, altered}
use Rattle.keyed.specs.Rows.{found}
use Rattle.keyed.proofs.Keyed.{and_right, same_key_lem, alone, untaken_altered}

module _ {X : Type 0} (key : X → Key) (k : Key) where
  pub unfound : (xs : List X) → found key k xs ≡ None → taken key k xs ≡ false
  unfound [] e = refl
  unfound (x ∷ xs) e = step (same_key k (key x)) e (λ n. unfound xs n)
    where
      step : (b : Bool) → cond b (Some x) (found key k xs) ≡ None → (found key k xs ≡ None → taken key k xs ≡ false) → (b || taken key k xs) ≡ false
      step true n h = grind arith
      step false n h = h n

  pub found_taken : (xs : List X) → is_some (found key k xs) ≡ taken key k xs
  found_taken [] = refl
  found_taken (x ∷ xs) = step (same_key k (key x)) (found_taken xs)
    where
      step : (b : Bool) → is_some (found key k xs) ≡ taken key k xs → is_some (cond b (Some x) (found key k xs)) ≡ (b || taken key k xs)
      step true h = refl
      step false h = h

  pub found_key : (x : X) (xs : List X) → found key k xs ≡ Some x → k ≡ key x
  found_key x [] e = grind arith
  found_key x (y ∷ ys) e = step (same_key k (key y)) (same_key_lem k (key y)) (λ n. found_key x ys n) e
    where
      step : (b : Bool) → (b ≡ true → k ≡ key y) → (found key k ys ≡ Some x → k ≡ key x) → cond b (Some y) (found key k ys) ≡ Some x → k ≡ key x
      step true h i n = let e : y ≡ x = grind arith in h refl ∙ ap key e
      step false h i n = i n

  module _ (change : X → X) (x : X) where
    replaced : (xs : List X) → distinct key xs ≡ true → found key k xs ≡ Some x → map (altered key k (λ _. change x)) xs ≡ map (altered key k change) xs
    replaced [] d e = refl
    replaced (y ∷ ys) d e = step (same_key k (key y)) (alone key k y ys d) (λ n. replaced ys (and_right (not (taken key (key y) ys)) _ d) n) e
      where
        step : (b : Bool) → (b ≡ true → taken key k ys ≡ false) →
            (found key k ys ≡ Some x → map (altered key k (λ _. change x)) ys ≡ map (altered key k change) ys) → cond b (Some y) (found key k ys) ≡ Some x →
            cond b (change x) y ∷ map (altered key k (λ _. change x)) ys ≡ cond b (change y) y ∷ map (altered key k change) ys
        step true h i n =
            let t = h refl in
            let e : x ≡ y = grind arith in
            ap (λ (z : X). change z ∷ map (altered key k (λ _. change x)) ys) e
            ∙ ap (λ (zs : List X). change y ∷ zs) (untaken_altered key k (λ _. change x) ys t ∙ sym (untaken_altered key k change ys t))
        step false h i n = ap (λ (zs : List X). y ∷ zs) (i n)

    pub replaced_altered : (xs : List X) → distinct key xs ≡ true → found key k xs ≡ Some x → key (change x) ≡ key x →
        map (altered key (key (change x)) (λ _. change x)) xs ≡ map (altered key k change) xs
    replaced_altered xs d e s = ap (λ (j : Key). map (altered key j (λ _. change x)) xs) (s ∙ sym (found_key x xs e)) ∙ replaced xs d e
