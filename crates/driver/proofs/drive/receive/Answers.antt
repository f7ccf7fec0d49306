use Rattle.std.proofs.Common.{sym}
use Rattle.reader.specs.Replies.{at}
use Rattle.driver.proofs.Turning.{one_more}
use Rattle.driver.proofs.drive.receive.Goals as goal

pub loop-datagrams-preserved : goal.loop-datagrams-preserved
loop-datagrams-preserved g c =
    let l = c.loop-datagrams in
    let e = c.in-Ok.ensures in
    one_more l.invariant _ {u = at c.take.new.self.stage (g.S.Sink.view c.take.new.sink)} l.auto.buffer e.done e.laid c.take.ensures.state (sym c.if-has_ended.ensures) c.loop-datagrams-test.true
