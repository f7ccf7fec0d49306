-- Which filters can stand on the bench host.
use Rattle.std.specs.Prelude.{◌≡◌, ℕ, Bool, true, false, cond, ◌&&◌, List, length, Some, None, Option, nat_le}
use Rattle.std.specs.Str.{bytes_eq}
use Rattle.requests.specs.Asks.{Key}
use Rattle.requests.specs.Back.{KeyFits}
use Rattle.requests.specs.FilterMessages.{filter_fault}
use Rattle.requests.specs.declared.fault.ArgumentFault.{ArgumentFault}
use Rattle.hosts.specs.Meaning.{Filter, bpf}

abbrev pub passes : Option ArgumentFault → Bool
passes None = true
passes (Some f) = false

-- only bpf filters have names
abbrev pub may_be_named : List ℕ → Option (List ℕ) → Bool
may_be_named kind None = true
may_be_named kind (Some name) = bytes_eq kind bpf

-- an interface, a kind and a name that pass the checks of an attach, a kind of 1 to 15 bytes, priority and handle not 0
abbrev pub is_filter : Filter → Bool
is_filter f =
    passes (filter_fault f.key f.kind f.name)
    && ((nat_le 1 f.key.priority && nat_le 1 f.key.handle) && ((nat_le 1 (length f.kind) && nat_le (length f.kind) 15) && may_be_named f.kind f.name))

-- the filter itself, where it can stand here
abbrev pub standing : Filter → Option Filter
standing f = cond (is_filter f) (Some f) None

abbrev pub filter_with : Key → List ℕ → Option (List ℕ) → Filter
filter_with key kind name = record { key = key; kind = kind; name = name }

-- a filter that can stand here, its numbers within 16 and 32 bits
abbrev pub Stands : Filter → Type 0
Stands f = (is_filter f ≡ true) × KeyFits f.key
