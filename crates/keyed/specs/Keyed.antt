-- Lists of things that have keys.
use Rattle.std.specs.Prelude.{ℕ, Bool, true, cond, not, ◌&&◌, List, [], ◌∷◌, filter}
use Rattle.std.specs.List.{list_any, prefix_len}
use Rattle.requests.specs.Asks.{Key}
use Rattle.hosts.specs.Rules.{same_key}

module _ {X : Type 0} (key : X → Key) where
  -- one has this key
  abbrev pub taken : Key → List X → Bool
  taken k = list_any (λ x. same_key k (key x))

  -- no two have the same
  abbrev pub distinct : List X → Bool
  distinct [] = true
  distinct (x ∷ xs) = not (taken (key x) xs) && distinct xs

  -- how many stand before that of this key
  abbrev pub before : Key → List X → ℕ
  before k = prefix_len (λ x. not (same_key k (key x)))

  -- those without that of this key
  abbrev pub without : Key → List X → List X
  without k = filter (λ x. not (same_key k (key x)))

  -- that of this key altered
  abbrev pub altered : Key → (X → X) → X → X
  altered k change x = cond (same_key k (key x)) (change x) x
