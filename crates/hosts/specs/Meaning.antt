-- The meaning of a host: the filters that stand, and the datagrams that wait.
use Rattle.std.specs.Prelude.{◌≡◌, ℕ, ◌≤◌, ◌⊎◌, List, [], ◌∷◌, map, length, Some, None, Option, ◌≢◌}
use Rattle.std.specs.List.{AllByRecursion}
use Rattle.records.specs.Layouts.{Message, Messages}
use Rattle.requests.specs.Asks.{Key}
-- a filter: its key, its kind, and its name where it has one
pub use Rattle.requests.specs.FilterMessages.{Filter}

abbrev pub bpf : List ℕ
bpf = 98 ∷ 112 ∷ 102 ∷ []

abbrev pub ZeroFree : List ℕ → Type 0
ZeroFree = AllByRecursion (λ x. x ≢ 0)

-- only a bpf filter has a name
abbrev pub Named : List ℕ → Option (List ℕ) → Type 0
Named kind None = Unit {0}
Named kind (Some name) = (kind ≡ bpf) × ZeroFree name

pub record Sound (f : Filter) : Type 0 where
  pub priority : f.key.priority ≡ 0 → ⊥
  pub handle : f.key.handle ≡ 0 → ⊥
  pub kind : ZeroFree f.kind
  pub name : Named f.kind f.name

abbrev pub In : {A : Type 0} → A → List A → Type 0
In x [] = ⊥
In x (y ∷ ys) = (x ≡ y) ⊎ In x ys

-- no two are the same
abbrev pub Apart : {A : Type 0} → List A → Type 0
Apart [] = Unit {0}
Apart (x ∷ xs) = (In x xs → ⊥) × Apart xs

abbrev pub keys : List Filter → List Key
keys = map (λ f. f.key)

-- one or more whole messages, at most 4,096 bytes
pub record Datagram (d : List ℕ) : Type 0 where
  pub first : Message
  pub others : List Message
  pub stands : Messages d (first ∷ others)
  pub short : length d ≤ 4096

-- what a host's filters and waiting datagrams always are
pub record Meant (fs : List Filter) (ws : List (List ℕ)) : Type 0 where
  pub sound : AllByRecursion Sound fs
  pub apart : Apart (keys fs)
  pub waits : AllByRecursion Datagram ws
