-- Reading the messages of a datagram.
use Rattle.std.specs.Prelude.{ℕ, ◌-◌, cond, ◌||◌, List, length, take, drop, ◌==◌, nat_lt}
use Rattle.records.specs.Words.{le2, le4}
use Rattle.records.specs.Align.{padded}
use Rattle.records.specs.Layouts.{Message}
use Rattle.reader.specs.Walks.{Step, end, fault, item, Reading, reading}
use Rattle.reader.specs.declared.fault.MessageFault.{MessageFault}
use Rattle.reader.specs.declared.fault.MessageFault.TheVariants.{Cut, Length}
use Rattle.reader.specs.declared.attribute.NetlinkMessage.{NetlinkMessage}

-- the step at a datagram of at least 16 bytes whose first message says the length n: 15
abbrev pub message_at : List ℕ → ℕ → Step Message MessageFault
message_at b n =
    cond (nat_lt n 16 || nat_lt (length b) n) (fault (Length n (length b)))
    (item (record { kind = le2 b 4; flags = le2 b 6; seq = le4 b 8; port = le4 b 12; payload = take (n - 16) (drop 16 b) }) (drop (padded n) b))

-- one message off the front of a datagram: 14 where fewer than 16 bytes are left
abbrev pub message_step : List ℕ → Step Message MessageFault
message_step b =
    cond (length b == 0) end
    (cond (nat_lt (length b) 16) (fault (Cut (length b)))
    (message_at b (le4 b 0)))

-- the messages of a datagram, to its end or its first fault
abbrev pub messages : List ℕ → Reading Message MessageFault
messages = reading message_step

-- a message as the code has it
abbrev pub message_of : NetlinkMessage → Message
message_of m = record { kind = m.header.kind; flags = m.header.flags; seq = m.header.seq; port = m.header.pid; payload = m.data.now }
