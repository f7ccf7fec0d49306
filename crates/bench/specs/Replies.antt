-- The messages that the bench host replies with.
use Rattle.std.specs.Prelude.{ℕ, List, [], ℤ, fold}
use Rattle.records.specs.Words.{bytes4}
use Rattle.records.specs.Fields.{nlmsghdr_of, nlmsgerr_bytes}
use Rattle.records.specs.Layouts.{Message}
use Rattle.requests.specs.Bytes.{message_bytes, sequence}
use Rattle.requests.specs.FilterMessages.{filter_message, filter_bytes}
use Rattle.queue.specs.Cuts.{joined}
use Rattle.hosts.specs.Meaning.{Filter}

-- the filter message, in a listing with NLM_F_MULTI (2), as an echo with the flags of the request
abbrev pub told : ℕ → Filter → Message
told flags f = filter_message flags f.key f.kind f.name

abbrev pub told_bytes : ℕ → Filter → List ℕ
told_bytes flags f = filter_bytes flags f.key f.kind f.name

-- NLMSG_ERROR (2) with NLM_F_CAPPED (0x100): the status, and the header of the request q
abbrev pub answer : List ℕ → ℤ → Message
answer q status = record { kind = 2; flags = 0x0100; seq = sequence; port = 0; payload = nlmsgerr_bytes (record { status = status; header = nlmsghdr_of q }) }

unfoldable pub answer_bytes : List ℕ → ℤ → List ℕ
answer_bytes q status = message_bytes (answer q status)

-- NLMSG_DONE (3) with NLM_F_MULTI: status 0
abbrev pub done : Message
done = record { kind = 3; flags = 2; seq = sequence; port = 0; payload = bytes4 0 }

unfoldable pub done_bytes : List ℕ
done_bytes = message_bytes done

-- messages in order, as many in each datagram as fit into 4,096 bytes
abbrev pub pages : List (List ℕ) → List (List ℕ)
pages = fold joined []
