-- The table of requests: type, flags, family header and attributes of each.
use Rattle.std.specs.Prelude.{ℕ, ◌+◌, ◌*◌, List, [], ◌∷◌, ◌++◌, ℤ, pos, negsuc, Some, None, Option}
use Rattle.std.proofs.Common.{of_z}
use Rattle.std.specs.Int.{w32}
use Rattle.std.specs.Option.{option_map}
use Rattle.records.specs.Words.{bytes4}
use Rattle.records.specs.Fields.{ifinfomsg_bytes, tcmsg_bytes}
use Rattle.records.specs.Layouts.{Attribute}
use Rattle.records.specs.declared.ifinfomsg.Ifinfomsg.{Ifinfomsg}
use Rattle.records.specs.declared.tcmsg.Tcmsg.{Tcmsg}
use Rattle.requests.specs.Modes.{mode_flags}
use Rattle.requests.specs.Asks.{Key, Program, Ask, set_xdp, add_clsact, attach, replace, remove, list}

-- an attribute of a request: a value of bytes, or a row of attributes
pub data Item : Type 0 where
  value : ℕ → List ℕ → Item
  nest : ℕ → List Attribute → Item

-- an attribute that is left out where there is no value
abbrev pub optional : ℕ → Option (List ℕ) → List Attribute
optional kind None = []
optional kind (Some payload) = record { kind = kind; payload = payload } ∷ []

-- IFLA_XDP (43): IFLA_XDP_FD (1), IFLA_XDP_FLAGS (3), and IFLA_XDP_EXPECTED_FD (8) if given
abbrev pub xdp_items : ℤ → ℕ → Option ℤ → List Item
xdp_items fd flags expected =
    nest 43
    (record { kind = 1; payload = bytes4 (of_z w32 fd) }
    ∷ record { kind = 3; payload = bytes4 flags }
    ∷ optional 8 (option_map (λ e. bytes4 (of_z w32 e)) expected))
    ∷ []

-- TCA_KIND (1): the text "clsact" and a zero
abbrev pub clsact_items : List Item
clsact_items = value 1 (99 ∷ 108 ∷ 115 ∷ 97 ∷ 99 ∷ 116 ∷ 0 ∷ []) ∷ []

-- TCA_KIND (1): "bpf" and a zero; TCA_OPTIONS (2): TCA_BPF_CLASSID (3) if given, TCA_BPF_FD (6), TCA_BPF_NAME (7) with a zero, TCA_BPF_FLAGS (8)
abbrev pub bpf_items : Option ℕ → ℕ → List ℕ → ℕ → List Item
bpf_items class fd name flags =
    value 1 (98 ∷ 112 ∷ 102 ∷ 0 ∷ [])
    ∷ nest 2
    (optional 3 (option_map bytes4 class)
    ++ (record { kind = 6; payload = bytes4 fd }
    ∷ record { kind = 7; payload = name ++ (0 ∷ []) }
    ∷ record { kind = 8; payload = bytes4 flags }
    ∷ []))
    ∷ []

-- a descriptor as a signed number, -1 for none
abbrev pub signed_descriptor : Option ℕ → ℤ
signed_descriptor None = negsuc 0
signed_descriptor (Some d) = pos d

-- beside the mode: replace only the expected program (16), or only where there is none (1)
abbrev pub condition_flag : Option ℕ → ℕ
condition_flag None = 1
condition_flag (Some e) = 16

-- family headers: fields that are not named are 0
abbrev pub interface_header : ℕ → Ifinfomsg
interface_header i = record { family = 0; pad = 0; kind = 0; index = pos i; flags = 0; change = 0 }

abbrev pub traffic_header : ℕ → ℕ → ℕ → ℕ → Tcmsg
traffic_header i handle parent info = record { family = 0; pad1 = 0; pad2 = 0; ifindex = pos i; handle = handle; parent = parent; info = info }

-- the priority above, and below it the protocol: all packets (0x0003 in network order)
abbrev pub info_of : ℕ → ℕ
info_of priority = priority * 65536 + 0x0300

abbrev pub filter_header : Key → Tcmsg
filter_header k = traffic_header k.interface k.handle k.parent (info_of k.priority)

-- message types: RTM_SETLINK 19, RTM_NEWQDISC 36, RTM_NEWTFILTER 44, RTM_DELTFILTER 45, RTM_GETTFILTER 46
abbrev pub type_of : Ask → ℕ
type_of (set_xdp i d e m) = 19
type_of (add_clsact i) = 36
type_of (attach k p) = 44
type_of (replace k p) = 44
type_of (remove k) = 45
type_of (list i p) = 46

-- flags: REQUEST 1, ACK 4, ECHO 8, EXCL 0x200, CREATE 0x400; a listing asks for a DUMP, 0x300
abbrev pub flags_of : Ask → ℕ
flags_of (set_xdp i d e m) = 0x0005
flags_of (add_clsact i) = 0x0605
flags_of (attach k p) = 0x060D
flags_of (replace k p) = 0x000D
flags_of (remove k) = 0x0005
flags_of (list i p) = 0x0301

abbrev pub family_of : Ask → List ℕ
family_of (set_xdp i d e m) = ifinfomsg_bytes (interface_header i)
family_of (add_clsact i) = tcmsg_bytes (traffic_header i 0xFFFF0000 0xFFFFFFF1 0)
family_of (attach k p) = tcmsg_bytes (filter_header k)
family_of (replace k p) = tcmsg_bytes (filter_header k)
family_of (remove k) = tcmsg_bytes (filter_header k)
family_of (list i p) = tcmsg_bytes (traffic_header i 0 p 0)

abbrev pub program_items : Program → List Item
program_items p = bpf_items p.class p.descriptor p.name 1

abbrev pub items_of : Ask → List Item
items_of (set_xdp i d e m) = xdp_items (signed_descriptor d) (mode_flags m + condition_flag e) (option_map pos e)
items_of (add_clsact i) = clsact_items
items_of (attach k p) = program_items p
items_of (replace k p) = program_items p
items_of (remove k) = []
items_of (list i p) = []
