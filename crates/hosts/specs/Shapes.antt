-- The messages that a host replies with, from the layouts of netlink(7) and rtnetlink(7).
use Rattle.std.specs.Prelude.{◌≡◌, ℕ, ◌/◌, ◌<◌, ◌≤◌, true, false, List, [], ◌∷◌, map, length, drop, ℤ, pos, negsuc, Some, None, filter, ◌≢◌, nat_eq}
use Rattle.std.proofs.Common.{to_z}
use Rattle.std.specs.Int.{w32}
use Rattle.std.specs.List.{AllByRecursion}
use Rattle.records.specs.Words.{le4}
use Rattle.records.specs.Fields.{tcmsg_of}
use Rattle.records.specs.Layouts.{Attribute, Row, Message}
use Rattle.requests.specs.Asks.{Key}
use Rattle.requests.specs.FilterMessages.{closed}
use Rattle.reader.specs.Rows.{attributes, plain_kind}
use Rattle.reader.specs.Replies.{multi}
use Rattle.hosts.specs.Meaning.{Filter, bpf, ZeroFree}

-- the payloads of the attributes of this type
abbrev pub payloads : ℕ → List Attribute → List (List ℕ)
payloads kind l = map (λ a. a.payload) (filter (λ a. nat_eq (plain_kind a) kind) l)

pub record Text (payload : List ℕ) : Type 0 where
  pub text : List ℕ
  pub free : ZeroFree text
  pub ends : payload ≡ closed text

-- the status that a payload begins with
abbrev pub status_in : List ℕ → ℤ
status_in payload = to_z w32 (le4 payload 0)

-- an error message (NLMSG_ERROR, 2) that is all of a reply, or its last message
pub record ErrorMessage (m : Message) : Type 0 where
  pub kind : m.kind ≡ 2
  pub single : multi m ≡ false
  pub long : 20 ≤ length m.payload

pub record Acknowledges (m : Message) : Type 0 where
  pub error : ErrorMessage m
  pub status : status_in m.payload ≡ pos 0

-- a status from -4,095 to -1, a row, and texts (attributes of type 1) that are well formed
pub record Refuses (m : Message) : Type 0 where
  pub error : ErrorMessage m
  pub below : ℕ
  pub least : below < 4095
  pub status : status_in m.payload ≡ negsuc below
  pub row : List Attribute
  pub stands : Row (drop 20 m.payload) row
  pub texts : AllByRecursion Text (payloads 1 row)

-- a filter message (RTM_NEWTFILTER, 44) with this key; the priority is the upper half of info
pub record NamesKey (k : Key) (m : Message) : Type 0 where
  pub kind : m.kind ≡ 44
  pub long : 20 ≤ length m.payload
  pub interface : (tcmsg_of m.payload).ifindex ≡ pos k.interface
  pub parent : (tcmsg_of m.payload).parent ≡ k.parent
  pub priority : (tcmsg_of m.payload).info / 65536 ≡ k.priority
  pub handle : (tcmsg_of m.payload).handle ≡ k.handle

-- the echo of an attach or a replace
pub record Echoes (k : Key) (m : Message) : Type 0 where
  pub names : NamesKey k m
  pub single : multi m ≡ false

-- options: a row whose only attribute of type 7 is the name and a zero, or that has none
pub record OptionsWith (names : List (List ℕ)) (options : List ℕ) : Type 0 where
  pub row : List Attribute
  pub stands : Row options row
  pub only : payloads 7 row ≡ names

-- the options of a filter: one where it has a name, at most one where it is an unnamed bpf filter, anything in other kinds
pub data Optioned (f : Filter) : List (List ℕ) → Type 0 where
  named : {name options : List ℕ} → f.name ≡ Some name → OptionsWith (closed name ∷ []) options → Optioned f (options ∷ [])
  unnamed : {options : List ℕ} → f.name ≡ None → OptionsWith [] options → Optioned f (options ∷ [])
  bare : f.name ≡ None → Optioned f []
  foreign : {all : List (List ℕ)} → (f.kind ≢ bpf) → Optioned f all

-- a filter in a listing: its key; a row with one attribute of type 1, the kind and a zero, and its options, of type 2
pub record Lists (f : Filter) (m : Message) : Type 0 where
  pub names : NamesKey f.key m
  pub part : multi m ≡ true
  pub row : List Attribute
  pub stands : Row (drop 20 m.payload) row
  pub kind : payloads 1 row ≡ closed f.kind ∷ []
  pub options : Optioned f (payloads 2 row)

-- the head of a priority: handle 0, and no options among the attributes that its row gives
pub record Heads (m : Message) : Type 0 where
  pub kind : m.kind ≡ 44
  pub part : multi m ≡ true
  pub long : 20 ≤ length m.payload
  pub handle : (tcmsg_of m.payload).handle ≡ 0
  pub options : payloads 2 (attributes (drop 20 m.payload)).found ≡ []

-- the end of a listing (NLMSG_DONE, 3), with this status
pub record Done (status : ℤ) (m : Message) : Type 0 where
  pub kind : m.kind ≡ 3
  pub part : multi m ≡ true
  pub long : 4 ≤ length m.payload
  pub says : status_in m.payload ≡ status
