-- Links: filters that are a session's own.
use Rattle.std.specs.Prelude.{ℕ, Bool, ◌&&◌, List, map, Result, nat_le}
use Rattle.requests.specs.Asks.{Key, key_of}
use Rattle.keyed.specs.Keyed.{taken, without, altered}
use Rattle.keyed.specs.Rows.{admitted}
use Rattle.keyed.specs.declared.table.Refused.{Refused}
use Rattle.session.specs.declared.link.Link.{Link as CodeLink}

-- the filter's key, and the descriptor of the program that was last confirmed for it
pub record Link : Type 0 where
  pub key : Key
  pub descriptor : ℕ

abbrev pub link_of : CodeLink → Link
link_of l = record { key = key_of l.key; descriptor = l.descriptor }

-- priority and handle are not 0
abbrev pub numbered : Key → Bool
numbered k = nat_le 1 k.priority && nat_le 1 k.handle

abbrev pub held : Key → List Link → Bool
held = taken (λ l. l.key)

abbrev pub dropped : Key → List Link → List Link
dropped = without (λ l. l.key)

-- the one row of this key with another descriptor
abbrev pub with_descriptor : ℕ → Link → Link
with_descriptor d l = record { key = l.key; descriptor = d }

abbrev pub confirmed : Key → ℕ → List Link → List Link
confirmed k d = map (altered (λ l. l.key) k (with_descriptor d))

-- one more may be added: its key is not held, and there are fewer than 64
abbrev pub takes : Key → List Link → Result (Unit {0}) Refused
takes = admitted (λ l. l.key) 64
