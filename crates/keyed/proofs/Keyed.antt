-- Lists of things that have keys: one by its key. Assumes nothing.
use Rattle.std.proofs.Common.{◌≡◌, ℕ, suc, ◌+◌, Bool, true, false, cond, not, ◌&&◌, ◌||◌, ltb, List, [], ◌∷◌, ◌++◌, map, length, get_or, set, sym, refl, ap, subst, arith}
use Rattle.std.specs.List.{remove}
use Rattle.std.proofs.lemmas.Bool.{and_parts, both_ways, false_from_ne_true, or_parts}
use Rattle.std.proofs.lemmas.Bool.Decides.{nat_tests}
use Rattle.requests.specs.Asks.{Key}
use Rattle.hosts.specs.Rules.{same_key}
use Rattle.keyed.specs.Keyed.{taken, distinct, before, without, altered}

-- what a test that is known says, in the forms that are cited
pub and_left : (a b : Bool) → (a && b) ≡ true → a ≡ true
and_left a b e = (and_parts a b e).0

pub and_right : (a b : Bool) → (a && b) ≡ true → b ≡ true
and_right a b e = (and_parts a b e).1

pub or_left : (a b : Bool) → (a || b) ≡ false → a ≡ false
or_left a b e = (or_parts a b e).0

pub or_right : (a b : Bool) → (a || b) ≡ false → b ≡ false
or_right a b e = (or_parts a b e).1

pub either : (b : Bool) → (b ≡ true → ⊥) → b ≡ false
either = false_from_ne_true

pub clash : {X : Type 0} (b : Bool) → b ≡ true → b ≡ false → X
clash b p q = absurd (both_ways b q p)

-- the same key is an equal one
pub same_key_lem : (k l : Key) → same_key k l ≡ true → k ≡ l
same_key_lem k l e = grind (arith, nat_tests)

pub key_same : (k : Key) → same_key k k ≡ true
key_same k = grind (arith, nat_tests)

pub other_key : (k l : Key) → same_key k l ≡ false → same_key l k ≡ false
other_key k l e = grind (arith, nat_tests)

module _ {X : Type 0} where
  -- at the place of the key, or at that behind it
  pub at_step : (P : X → Type 0) (b : Bool) (x d : X) (xs : List X) (i : ℕ) → (b ≡ true → P x) → (b ≡ false → P (get_or xs i d)) → P (get_or (x ∷ xs) (cond (not b) (1 + i) 0) d)
  at_step P true x d xs i p q = p refl
  at_step P false x d xs i p q =
      let n : 1 + i ≡ suc i = omega arith in
      subst (λ (j : ℕ). P (get_or (x ∷ xs) j d)) (sym n) (q refl)

  remove_later : (x : X) (xs : List X) (i : ℕ) → remove (x ∷ xs) (1 + i) ≡ x ∷ remove xs i
  remove_later x xs i = let n : 1 + i ≡ suc i = omega arith in ap (remove (x ∷ xs)) n

module _ {X : Type 0} (key : X → Key) (k : Key) where
  -- where none has the key
  pub untaken_without : (xs : List X) → taken key k xs ≡ false → without key k xs ≡ xs
  untaken_without [] e = refl
  untaken_without (x ∷ xs) e = grind (arith, untaken_without xs)

  -- the others of a list have other keys than its first
  pub alone : (x : X) (xs : List X) → distinct key (x ∷ xs) ≡ true → same_key k (key x) ≡ true → taken key k xs ≡ false
  alone x xs e p = grind (arith, same_key_lem k (key x) p)

  pub first_removed : (xs : List X) → distinct key xs ≡ true → taken key k xs ≡ true → remove xs (before key k xs) ≡ without key k xs
  first_removed [] e t = clash false t refl
  first_removed (x ∷ xs) e t = grind (arith, untaken_without xs, first_removed xs, same_key_lem, remove_later x xs)

  pub first_has : (d : X) (xs : List X) → taken key k xs ≡ true → same_key k (key (get_or xs (before key k xs) d)) ≡ true
  first_has d [] t = clash false t refl
  first_has d (x ∷ xs) t = grind (arith, first_has d xs)

  -- whether it is taken is whether its place is within the list
  pub taken_within : (xs : List X) → taken key k xs ≡ ltb (before key k xs) (length xs)
  taken_within [] = refl
  taken_within (x ∷ xs) = grind (arith, nat_tests, taken_within xs)

-- one altered, under the same key
module _ {X : Type 0} (key : X → Key) (k : Key) (change : X → X) where
  pub altered_same : (x : X) → same_key k (key x) ≡ true → altered key k change x ≡ change x
  altered_same x e = grind arith

  pub untaken_altered : (xs : List X) → taken key k xs ≡ false → map (altered key k change) xs ≡ xs
  untaken_altered [] e = refl
  untaken_altered (x ∷ xs) e = grind (arith, untaken_altered xs)

  pub first_set : (d : X) (xs : List X) → distinct key xs ≡ true → taken key k xs ≡ true →
      set xs (before key k xs) (altered key k change (get_or xs (before key k xs) d)) ≡ map (altered key k change) xs
  first_set d [] e t = clash false t refl
  first_set d (x ∷ xs) e t = grind (arith, untaken_altered xs, first_set d xs, same_key_lem)

  module _ (same : (x : X) → same_key k (key x) ≡ true → key (change x) ≡ key x) where
    altered_key : (x : X) → key (altered key k change x) ≡ key x
    altered_key x = grind (arith, same x)

    taken_altered : (a : Key) (xs : List X) → taken key a (map (altered key k change) xs) ≡ taken key a xs
    taken_altered a [] = refl
    taken_altered a (x ∷ xs) = grind (arith, altered_key x, taken_altered a xs)

    pub distinct_altered : (xs : List X) → distinct key xs ≡ true → distinct key (map (altered key k change) xs) ≡ true
    distinct_altered [] e = refl
    distinct_altered (x ∷ xs) e = grind (arith, altered_key x, taken_altered (key x) xs, distinct_altered xs)

-- keys still differ
module _ {X : Type 0} (key : X → Key) where
  taken_append : (a : Key) (xs : List X) (x : X) → taken key a xs ≡ false → same_key a (key x) ≡ false → taken key a (xs ++ x ∷ []) ≡ false
  taken_append a [] x e n = grind arith
  taken_append a (y ∷ xs) x e n = grind (arith, taken_append a xs x)

  pub distinct_append : (xs : List X) (x : X) → distinct key xs ≡ true → taken key (key x) xs ≡ false → distinct key (xs ++ x ∷ []) ≡ true
  distinct_append [] x e t = refl
  distinct_append (y ∷ xs) x e t = grind (arith, distinct_append xs x, taken_append, other_key)

  taken_fewer : (a k : Key) (xs : List X) → taken key a xs ≡ false → taken key a (without key k xs) ≡ false
  taken_fewer a k [] e = refl
  taken_fewer a k (x ∷ xs) e = grind (arith, taken_fewer a k xs)

  pub distinct_without : (k : Key) (xs : List X) → distinct key xs ≡ true → distinct key (without key k xs) ≡ true
  distinct_without k [] e = refl
  distinct_without k (x ∷ xs) e = grind (arith, distinct_without k xs, taken_fewer (key x) k xs)
