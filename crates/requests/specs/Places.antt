-- Where the arguments of a request stand in its bytes: what the code that reads one back picks out before it compares.
use Rattle.std.specs.Prelude.{ℕ, ◌+◌, ◌-◌, ◌/◌, ◌%◌, ◌<◌, cond, List, length, take, drop, Some, None, Option, ◌==◌, nat_lt}
use Rattle.std.proofs.Common.{of_z}
use Rattle.std.specs.Int.{w32}
use Rattle.records.specs.Words.{le2, le4}
use Rattle.records.specs.Fields.{ifinfomsg_of, tcmsg_of}
use Rattle.records.specs.declared.tcmsg.Tcmsg.{Tcmsg}
use Rattle.requests.specs.declared.mode.XdpMode.{XdpMode}
use Rattle.requests.specs.declared.mode.XdpMode.TheVariants.{Default, Skb, Driver, Hardware}
use Rattle.requests.specs.Asks.{Key, Program, Ask, set_xdp, add_clsact, attach, replace, remove, list}

-- the key in a family header
abbrev pub header_key : Tcmsg → Key
header_key t = record { interface = of_z w32 t.ifindex; parent = t.parent; priority = t.info / 65536; handle = t.handle }

abbrev pub header_of : List ℕ → Tcmsg
header_of b = tcmsg_of (drop 16 b)

-- the options begin at 48, with the class if there is one
abbrev pub base_of : List ℕ → ℕ
base_of b = cond (le2 b 50 == 3) 56 48

abbrev pub class_of : List ℕ → Option ℕ
class_of b = cond (le2 b 50 == 3) (Some (le4 b 52)) None

abbrev pub program_at : ℕ → Option ℕ → List ℕ → Program
program_at base class b = record { descriptor = le4 b (base + 4); name = take (le2 b (base + 8) - 5) (drop (base + 12) b); class = class }

abbrev pub placed_program : List ℕ → Program
placed_program b = program_at (base_of b) (class_of b) b

-- too short for a program to be picked out, or the length of a name that is none
pub data Short (b : List ℕ) : Type 0 where
  small : length b < 72 → Short b
  nameless : le2 b (base_of b + 8) < 5 → Short b
  cut : length b + 5 < base_of b + 12 + le2 b (base_of b + 8) → Short b

-- the mode that the flags hold, the descriptor that a word is, and the one expected
abbrev pub mode_of : ℕ → XdpMode
mode_of flags =
    cond (flags % 16 / 2 == 1) Skb (cond (flags % 16 / 2 == 2) Driver (cond (flags % 16 / 2 == 4) Hardware Default))

abbrev pub descriptor_of : ℕ → Option ℕ
descriptor_of w = cond (w == 4294967295) None (Some w)

abbrev pub expected_of : List ℕ → Option ℕ
expected_of b = cond (nat_lt (length b) 60) None (Some (le4 b 56))

abbrev pub placed_xdp : List ℕ → Ask
placed_xdp b = set_xdp (of_z w32 (ifinfomsg_of (drop 16 b)).index) (descriptor_of (le4 b 40)) (expected_of b) (mode_of (le4 b 48))

-- the request that bytes of this type and these flags would be
abbrev pub placed : ℕ → ℕ → List ℕ → Ask
placed kind flags b =
    cond (kind == 19) (placed_xdp b)
    (cond (kind == 36) (add_clsact (header_key (header_of b)).interface)
    (cond (kind == 44) (cond (flags == 0x060D) (attach (header_key (header_of b)) (placed_program b)) (replace (header_key (header_of b)) (placed_program b)))
    (cond (kind == 45) (remove (header_key (header_of b))) (list (header_key (header_of b)).interface (header_of b).parent))))
