-- What a capped list holds, and what its calls answer.
use Rattle.std.specs.Prelude.{ℕ, Bool, true, false, List, take, Ok, Err, Result, nat_le}
use Rattle.capped.specs.declared.list.Capped.{Capped}
use Rattle.capped.specs.declared.list.Full.{Full}

-- its values, first first
abbrev pub values : {T : Type 0} → {N : ℕ} → Capped T N → List T
values c = take c.len c.cells

-- there is room, or not
abbrev pub room : Bool → Result (Unit {0}) Full
room true = Ok tt
room false = Err (record {})

-- whether so many values have room among at most so many
abbrev pub within : ℕ → ℕ → Result (Unit {0}) Full
within most n = room (nat_le n most)
