-- Whether bytes are a datagram that may wait, as a test.
use Rattle.std.specs.Prelude.{ℕ, Bool, true, false, ◌&&◌, List, [], ◌∷◌, length, nat_le}
use Rattle.records.specs.Layouts.{Message}
use Rattle.reader.specs.Walks.{Stop, clean, broken}
use Rattle.reader.specs.Datagrams.{messages}
use Rattle.reader.specs.declared.fault.MessageFault.{MessageFault}

abbrev pub some : List Message → Stop MessageFault → Bool
some [] stop = false
some (m ∷ ms) clean = true
some (m ∷ ms) (broken f) = false

-- one or more whole messages, at most 4,096 bytes
abbrev pub is_datagram : List ℕ → Bool
is_datagram d = some (messages d).found (messages d).stop && nat_le (length d) 4096

abbrev pub all_datagrams : List (List ℕ) → Bool
all_datagrams [] = true
all_datagrams (d ∷ ds) = is_datagram d && all_datagrams ds
