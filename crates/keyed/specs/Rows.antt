-- What a table holds, and what its calls make of that.
use Rattle.std.specs.Prelude.{ℕ, cond, List, [], ◌∷◌, ◌++◌, map, length, Ok, Err, Option, Result, nat_le}
use Rattle.std.specs.List.{find, position}
use Rattle.requests.specs.Asks.{Key}
use Rattle.hosts.specs.Rules.{same_key}
use Rattle.keyed.specs.Keyed.{taken}
use Rattle.capped.specs.Values.{values}
use Rattle.keyed.specs.declared.row.Keyed.{Ghosts}
use Rattle.keyed.specs.declared.table.Table.{Table}
use Rattle.keyed.specs.declared.table.Refused.{Refused}
use Rattle.keyed.specs.declared.table.Refused.TheVariants.{Taken, Full}

-- the rows in order, each by what it stands for
abbrev pub stored : {R : Type 0} → {N : ℕ} → {g : Ghosts R} → Table R N g → List g.Meant
stored {g = g} t = map g.means (values t.rows)

-- one more at the end, where nothing refuses it
abbrev pub added : {X : Type 0} → Result (Unit {0}) Refused → X → List X → List X
added (Ok u) x xs = xs ++ x ∷ []
added (Err e) x xs = xs

module _ {X : Type 0} (key : X → Key) where
  -- where that of this key stands, and that itself, if there is one
  abbrev pub place : Key → List X → Option ℕ
  place k = position (λ x. same_key k (key x))

  abbrev pub found : Key → List X → Option X
  found k = find (λ x. same_key k (key x))

  -- whether one more may stand under this key among at most so many
  abbrev pub admitted : ℕ → Key → List X → Result (Unit {0}) Refused
  admitted most k xs = cond (taken key k xs) (Err Taken) (cond (nat_le most (length xs)) (Err Full) (Ok tt))
