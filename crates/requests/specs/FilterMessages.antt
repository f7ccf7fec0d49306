-- The message that tells of a filter, as a kernel sends it: in a listing, or as the echo of a request.
use Rattle.std.specs.Prelude.{ℕ, ◌+◌, List, [], ◌∷◌, ◌++◌, length, Some, None, Option}
use Rattle.std.specs.Option.{option_map, option_copied}
use Rattle.records.specs.Align.{padded}
use Rattle.records.specs.Fields.{tcmsg_bytes}
use Rattle.records.specs.Layouts.{Attribute, Message}
use Rattle.requests.specs.declared.fault.ArgumentFault.{ArgumentFault}
use Rattle.requests.specs.declared.filter.Filter.{Filter as CodeFilter}
use Rattle.requests.specs.declared.name.Name.{Name}
use Rattle.requests.specs.Asks.{Key, key_of}
use Rattle.requests.specs.Table.{filter_header}
use Rattle.requests.specs.Bytes.{row_bytes, message_bytes, sequence}
use Rattle.requests.specs.Refusals.{first, interface_fault, name_fault}

-- a filter: its key, its kind, and its name where it has one
pub record Filter : Type 0 where
  pub key : Key
  pub kind : List ℕ
  pub name : Option (List ℕ)

-- what the code's type means
abbrev pub filter_of : CodeFilter → Filter
filter_of f = record { key = key_of f.key; kind = f.kind.now; name = option_copied f.name }

-- the text of a checked name, where there is one
abbrev pub texts_of : Option Name → Option (List ℕ)
texts_of = option_map (λ n. n.bytes.now)

-- a text and its final zero
abbrev pub closed : List ℕ → List ℕ
closed text = text ++ (0 ∷ [])

-- TCA_BPF_NAME (7)
abbrev pub name_row : List ℕ → List Attribute
name_row name = record { kind = 7; payload = closed name } ∷ []

-- TCA_OPTIONS (2), where there is a name
abbrev pub name_options : Option (List ℕ) → List Attribute
name_options None = []
name_options (Some name) = record { kind = 2; payload = row_bytes (name_row name) } ∷ []

-- TCA_KIND (1), and the options
abbrev pub filter_row : List ℕ → Option (List ℕ) → List Attribute
filter_row kind name = record { kind = 1; payload = closed kind } ∷ name_options name

-- RTM_NEWTFILTER (44)
abbrev pub filter_message : ℕ → Key → List ℕ → Option (List ℕ) → Message
filter_message flags key kind name =
    record { kind = 44; flags = flags; seq = sequence; port = 0; payload = tcmsg_bytes (filter_header key) ++ row_bytes (filter_row kind name) }

unfoldable pub filter_bytes : ℕ → Key → List ℕ → Option (List ℕ) → List ℕ
filter_bytes flags key kind name = message_bytes (filter_message flags key kind name)

-- how many bytes the options take, and how many the whole message
abbrev pub options_length : Option (List ℕ) → ℕ
options_length name = length (row_bytes (name_options name))

abbrev pub filter_length : List ℕ → Option (List ℕ) → ℕ
filter_length kind name = 36 + padded (length kind + 5) + options_length name

-- kind and name are texts of at most 256 bytes without a zero
abbrev pub optional_name_fault : Option (List ℕ) → Option ArgumentFault
optional_name_fault None = None
optional_name_fault (Some name) = name_fault name

abbrev pub filter_fault : Key → List ℕ → Option (List ℕ) → Option ArgumentFault
filter_fault key kind name = first (interface_fault key.interface) (first (name_fault kind) (optional_name_fault name))
