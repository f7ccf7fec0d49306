-- That a host keeps the rules.
use Rattle.std.specs.Prelude.{ℕ, List}
use Rattle.hosts.specs.Events.{Event}
use Rattle.hosts.specs.Meaning.{Filter, Meant}
use Rattle.hosts.specs.Rules.{Rule}

module _ {H : Type 0} (filters : H → List Filter) (waiting : H → List (List ℕ)) (did : H → Event → H → Type 0) where
  abbrev pub Keeps : Type 0
  Keeps = ((h : H) → Meant (filters h) (waiting h)) × ((h : H) (e : Event) (k : H) → did h e k → Rule (filters h) (waiting h) e (filters k) (waiting k))
