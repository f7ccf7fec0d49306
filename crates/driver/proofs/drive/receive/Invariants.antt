use Rattle.reader.specs.Replies.{at}
use Rattle.driver.proofs.Turning.{Leads}
use Rattle.driver.proofs.drive.receive.Given as goal

abbrev pub invariant-loop-datagrams : goal.invariant-loop-datagrams
invariant-loop-datagrams g l =
    Leads g.H.Host.did g.S.Sink.fed (at l.initial.turn.stage (g.S.Sink.view l.initial.sink)) l.initial.host l.initial.buffer
    l.datagrams (at l.turn.stage (g.S.Sink.view l.sink)) l.host l.buffer
