-- The rules hold above a loss. Assumes nothing.
use Rattle.std.specs.Prelude.{ℕ, Bool, true, false, List, [], ◌∷◌, pos}
use Rattle.hosts.specs.Events.{Event, opened, sent, received, Got, datagram, failed}
use Rattle.hosts.specs.Meaning.{Filter}
use Rattle.hosts.specs.Rules.{Rule, Within, none, keep, lose}
use Rattle.hosts.specs.Losing.{Passed}

pub within_refl : {A : Type 0} (xs : List A) → Within xs xs
within_refl [] = none
within_refl (x ∷ xs) = keep (within_refl xs)

lost_rule : (n : ℕ) (fs : List Filter) (ws : List (List ℕ)) (g : Got) (fs' : List Filter) (ws' : List (List ℕ)) → Rule fs ws (received 4096 g) fs' ws' → Rule fs ws (received n (failed (pos 105))) fs' ws'
lost_rule n fs ws (datagram d) fs' ws' p = (p.1, rw p.2 (lose (within_refl ws')))
lost_rule n fs ws (failed e) fs' ws' p = p

module _ {H : Type 0} (did : H → Event → H → Type 0) (filters : H → List Filter) (waiting : H → List (List ℕ))
    (rules : (h : H) (e : Event) (k : H) → did h e k → Rule (filters h) (waiting h) e (filters k) (waiting k)) where
  pub passed_rule : (b : Bool) (h : H) (e : Event) (k : H) → Passed did b h e k → Rule (filters h) (waiting h) e (filters k) (waiting k)
  passed_rule b h (opened r) k p = rules h (opened r) k p
  passed_rule b h (sent q r) k p = rules h (sent q r) k p
  passed_rule false h (received n g) k p = rules h (received n g) k p
  passed_rule true h (received n g) k p = rw p.2 (lost_rule n (filters h) (waiting h) p.0 (filters k) (waiting k) (rules h (received 4096 p.0) k p.1))
