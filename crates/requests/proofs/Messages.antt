-- A message: its header, and its payload in two parts. Assumes nothing.
use Rattle.std.proofs.Common.{◌≡◌, ℕ, ◌+◌, List, [], ◌++◌, length, sym, ap, ◌∙◌, arith}
use Rattle.std.proofs.lemmas.List.{append-nil}
use Rattle.records.specs.Words.{bytes2, bytes4}
use Rattle.records.specs.Layouts.{Message}
use Rattle.requests.specs.Bytes.{message_bytes, sequence}
use Rattle.requests.specs.Writing.{Puts}
use Rattle.requests.proofs.Putting.{puts_both, puts_same}

abbrev pub header_bytes : ℕ → ℕ → ℕ → List ℕ
header_bytes len kind flags = bytes4 len ++ (bytes2 kind ++ (bytes2 flags ++ (bytes4 sequence ++ bytes4 0)))

abbrev pub with_payload : ℕ → ℕ → List ℕ → Message
with_payload kind flags payload = record { kind = kind; flags = flags; seq = sequence; port = 0; payload = payload }

pub message_length : (m : Message) → length (message_bytes m) ≡ 16 + length m.payload
message_length m = omega arith

-- a header, a family header and a row are a message
pub message_puts : (a b c : List ℕ) (i n kind flags len : ℕ) (family pieces row : List ℕ) → pieces ≡ row → len ≡ 16 + length (family ++ row) →
    Puts a b 0 i (header_bytes len kind flags ++ family) → Puts b c i n pieces → Puts a c 0 n (message_bytes (with_payload kind flags (family ++ row)))
message_puts a b c i n kind flags len family pieces row e l p q =
    puts_same a c _ _ 0 n
    (ap (λ (y : List ℕ). (header_bytes len kind flags ++ family) ++ y) e ∙ ap (λ (k : ℕ). (header_bytes k kind flags ++ family) ++ row) l)
    (puts_both a b c (header_bytes len kind flags ++ family) pieces 0 i n p q)

-- a header and a family header alone are a message
pub bare_puts : (a b : List ℕ) (n kind flags len : ℕ) (family : List ℕ) → len ≡ 16 + length family →
    Puts a b 0 n (header_bytes len kind flags ++ family) → Puts a b 0 n (message_bytes (with_payload kind flags (family ++ [])))
bare_puts a b n kind flags len family l p =
    let e = append-nil family in
    puts_same a b _ _ 0 n
    (ap (λ (k : ℕ). header_bytes k kind flags ++ family) l
    ∙ sym (ap (λ (y : List ℕ). message_bytes (with_payload kind flags y)) e))
    p
