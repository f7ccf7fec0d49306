use Rattle.std.proofs.Common.{◌≡◌, true}
use Rattle.reader.specs.Datagrams.{messages}
use Rattle.reader.specs.Replies.{at, onwards}
use Rattle.reader.specs.Turns.{moved}
use Rattle.reader.proofs.Walked.{Walks}
use Rattle.reader.proofs.turn.Turn.walk.Given as goal

abbrev pub invariant-loop-next : goal.invariant-loop-next
invariant-loop-next g l =
    record {
      can : (goal.iterator-loop-next g).can_next l.next-iterator;
      ends : (goal.iterator-loop-next g).is_finite l.next-iterator;
      walks : Walks g.S.Sink.fed (onwards g.S.Sink.fed (at l.initial.self.stage (g.S.Sink.view l.initial.sink)) true (messages l.datagram))
          (at l.self.stage (g.S.Sink.view l.sink)) l.multi l.next-iterator.rest.now;
      moved : l.self ≡ moved l.initial.self l.self.stage;
    }
