-- The bytes of a request.
use Rattle.std.specs.Prelude.{ℕ, ◌+◌, List, [], ◌∷◌, ◌++◌, map, length, replicate, Some, None, Option}
use Rattle.records.specs.Words.{bytes2, bytes4}
use Rattle.records.specs.Align.{padded, fill}
use Rattle.records.specs.Layouts.{Attribute, Message}
use Rattle.requests.specs.Asks.{Program, Ask, set_xdp, add_clsact, attach, replace, remove, list}
use Rattle.requests.specs.Table.{Item, value, nest, type_of, flags_of, family_of, items_of}

-- an attribute: its length without padding, its type, its payload, and zeros up to a multiple of 4
abbrev pub attribute_bytes : Attribute → List ℕ
attribute_bytes a =
    bytes2 (4 + length a.payload) ++ (bytes2 a.kind ++ (a.payload ++ replicate (fill (4 + length a.payload)) 0))

abbrev pub row_bytes : List Attribute → List ℕ
row_bytes [] = []
row_bytes (a ∷ more) = attribute_bytes a ++ row_bytes more

-- a nested attribute has 0x8000 in its type, and a row for its payload
abbrev pub attribute_of : Item → Attribute
attribute_of (value kind payload) = record { kind = kind; payload = payload }
attribute_of (nest kind row) = record { kind = 0x8000 + kind; payload = row_bytes row }

-- a message: its length, type, flags, sequence number, port, payload
abbrev pub message_bytes : Message → List ℕ
message_bytes m =
    bytes4 (16 + length m.payload) ++ (bytes2 m.kind ++ (bytes2 m.flags ++ (bytes4 m.seq ++ (bytes4 m.port ++ m.payload))))

-- a request: sequence number 1, port 0
abbrev pub sequence : ℕ
sequence = 1

abbrev pub request_message : ℕ → ℕ → List ℕ → List Item → Message
request_message kind flags family items =
    record { kind = kind; flags = flags; seq = sequence; port = 0; payload = family ++ row_bytes (map attribute_of items) }

unfoldable pub request_bytes : Ask → List ℕ
request_bytes x = message_bytes (request_message (type_of x) (flags_of x) (family_of x) (items_of x))

-- how long a request is
abbrev pub optional_length : {X : Type 0} → Option X → ℕ
optional_length None = 0
optional_length (Some x) = 8

abbrev pub program_length : Program → ℕ
program_length p = 68 + optional_length p.class + padded (length p.name + 1)

abbrev pub request_length : Ask → ℕ
request_length (set_xdp i d e m) = 52 + optional_length e
request_length (add_clsact i) = 48
request_length (attach k p) = program_length p
request_length (replace k p) = program_length p
request_length (remove k) = 36
request_length (list i p) = 36
