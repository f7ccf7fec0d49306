-- Requests of a fixed length: nothing behind the family header, or the kind alone. Assumes nothing.
use Rattle.std.proofs.Common.{◌≡◌, ℕ, List, [], ◌∷◌, ◌++◌, length, refl}
use Rattle.records.specs.Fields.{tcmsg_bytes}
use Rattle.records.specs.declared.tcmsg.Tcmsg.{Tcmsg}
use Rattle.requests.specs.Table.{clsact_items}
use Rattle.requests.specs.Bytes.{attribute_bytes}
use Rattle.requests.specs.Builders.{tc_bytes}
use Rattle.requests.specs.Writing.{Puts}
use Rattle.requests.proofs.Messages.{header_bytes, bare_puts, message_puts}

pub bare_length : (kind flags : ℕ) (family : Tcmsg) → length (tc_bytes kind flags family []) ≡ 36
unfolding tc_bytes
bare_length kind flags family = refl

pub bare_done : (a b : List ℕ) (n kind flags : ℕ) (family : Tcmsg) → Puts a b 0 n (header_bytes 36 kind flags ++ tcmsg_bytes family) → Puts a b 0 n (tc_bytes kind flags family [])
unfolding tc_bytes
bare_done a b n kind flags family p = bare_puts a b n kind flags 36 (tcmsg_bytes family) refl p

pub clsact_length : (flags : ℕ) (family : Tcmsg) → length (tc_bytes 36 flags family clsact_items) ≡ 48
unfolding tc_bytes
clsact_length flags family = refl

pub clsact_done : (a b c : List ℕ) (i n flags : ℕ) (family : Tcmsg) → Puts a b 0 i (header_bytes 48 36 flags ++ tcmsg_bytes family) →
    Puts b c i n (attribute_bytes (record { kind = 1; payload = 99 ∷ 108 ∷ 115 ∷ 97 ∷ 99 ∷ 116 ∷ 0 ∷ [] })) → Puts a c 0 n (tc_bytes 36 flags family clsact_items)
unfolding tc_bytes
clsact_done a b c i n flags family p q = message_puts a b c i n 36 flags 48 (tcmsg_bytes family) _ _ refl refl p q
