use Rattle.std.proofs.Common.{true, refl, ap, ◌∙◌}
use Rattle.std.proofs.lemmas.Result.{err_from_is_err_and}
use Rattle.reader.specs.Datagrams.{messages}
use Rattle.reader.specs.Replies.{at, onwards}
use Rattle.reader.specs.Turns.{moved}
use Rattle.reader.proofs.Walked.{walk_more, walk_end, walk_fault}
use Rattle.reader.proofs.turn.Turn.walk.Goals as goal

pub loop-next-preserved : goal.loop-next-preserved
loop-next-preserved g c =
    let v = g.S.Sink.view in
    record {
      can = tt;
      ends = tt;
      walks = walk_more g.S.Sink.fed (onwards g.S.Sink.fed (at c.args.self.now.stage (v c.args.sink.now)) true (messages c.args.datagram.now))
          (at c.loop-next.self.stage (v c.loop-next.sink)) c.loop-next.multi c.loop-next.invariant.walks c.in-Some.ensures.steps
          (at c.heed.new.self.stage (v c.heed.new.sink)) _ c.in_ok-message.was c.class_of-class.ensures c.heed.ensures.state refl;
      moved = c.heed.ensures.moved ∙ ap (λ x. moved x c.heed.new.self.stage) c.loop-next.invariant.moved;
    }

pub returns-in_err-message-clause-state : goal.returns-in_err-message-clause-state
returns-in_err-message-clause-state g c =
    let v = g.S.Sink.view in
    let p = err_from_is_err_and c.from_residual.result c.from_residual.ensures.1 in
    walk_fault g.S.Sink.fed (onwards g.S.Sink.fed (at c.args.self.now.stage (v c.args.sink.now)) true (messages c.args.datagram.now))
    (at c.loop-next.self.stage (v c.loop-next.sink)) c.loop-next.multi c.loop-next.invariant.walks c.in-Some.ensures.steps
    c.from_residual.result c.in_err-message.was p.1 p.2

pub returns-clause-state : goal.returns-clause-state
returns-clause-state g c =
    let v = g.S.Sink.view in
    walk_end g.S.Sink.fed (onwards g.S.Sink.fed (at c.args.self.now.stage (v c.args.sink.now)) true (messages c.args.datagram.now))
    (at c.loop-next.self.stage (v c.loop-next.sink)) c.loop-next.multi c.loop-next.next-iterator.rest.now c.loop-next.invariant.walks c.in-None.ensures.steps.step
