-- The bytes that each builder writes, for any family header and flags.
use Rattle.std.specs.Prelude.{ℕ, List, ℤ, Option}
use Rattle.records.specs.Fields.{ifinfomsg_bytes, tcmsg_bytes}
use Rattle.records.specs.declared.ifinfomsg.Ifinfomsg.{Ifinfomsg}
use Rattle.records.specs.declared.tcmsg.Tcmsg.{Tcmsg}
use Rattle.requests.specs.Table.{Item, xdp_items}
use Rattle.requests.specs.Bytes.{message_bytes, request_message}

unfoldable pub link_bytes : ℕ → Ifinfomsg → ℤ → ℕ → Option ℤ → List ℕ
link_bytes flags family fd xdp_flags expected = message_bytes (request_message 19 flags (ifinfomsg_bytes family) (xdp_items fd xdp_flags expected))

unfoldable pub tc_bytes : ℕ → ℕ → Tcmsg → List Item → List ℕ
tc_bytes kind flags family items = message_bytes (request_message kind flags (tcmsg_bytes family) items)
