-- A layer that loses one datagram of the host below.
use Rattle.std.specs.Prelude.{◌≡◌, ℕ, ◌-◌, Bool, true, false, pos}
use Rattle.hosts.specs.Events.{Event, opened, sent, received, Got, failed}

-- how many receives are left to the one that fails, 0 once it has
abbrev pub countdown : ℕ → Event → ℕ
countdown n (opened r) = n
countdown n (sent q r) = n
countdown n (received size g) = n - 1

module _ {H : Type 0} (did : H → Event → H → Type 0) where
  -- what happens above a call of the host below. A receive that loses fails with 105, whatever the host below gave, which had a buffer of 4,096 bytes
  abbrev pub Passed : Bool → H → Event → H → Type 0
  Passed loses h (opened r) k = did h (opened r) k
  Passed loses h (sent q r) k = did h (sent q r) k
  Passed false h (received n g) k = did h (received n g) k
  Passed true h (received n g) k = (f : Got) × did h (received 4096 f) k × (g ≡ failed (pos 105))
