use Rattle.std.proofs.Common.{◌∙◌}
use Rattle.std.proofs.lemmas.Result.{err_from_is_err_and}
use Rattle.reader.specs.Visits.{through}
use Rattle.reader.proofs.Visiting.{visit_more, visit_fault, visit_broken, visit_end, told_err}
use Rattle.reader.proofs.visit.visit.Goals as goal

pub loop-next-preserved : goal.loop-next-preserved
loop-next-preserved g c =
    let v = g.V.Visitor.view in
    let comes = visit_more g.V.Visitor.met (through g.V.Visitor.met (v c.args.visitor.now) c.args.row.now) (v c.loop-next.visitor)
    c.loop-next.invariant.comes c.in-Some.ensures.steps (v c.meet.new.self) c.in_ok-attr.was c.meet.ensures c.in_ok-meet.was in
    record { can = tt; ends = tt; comes = comes }

pub returns-in_err-meet : goal.returns-in_err-meet
returns-in_err-meet g c =
    let v = g.V.Visitor.view in
    let p = err_from_is_err_and c.from_residual-in_err-meet.result c.from_residual-in_err-meet.ensures.1 in
    visit_fault g.V.Visitor.met (through g.V.Visitor.met (v c.args.visitor.now) c.args.row.now) (v c.loop-next.visitor)
    c.loop-next.invariant.comes c.in-Some.ensures.steps (v c.meet.new.self) c.in_ok-attr.was c.meet.ensures c.in_err-meet.was
    ∙ told_err _ p.1 p.2

pub returns-in_err-attr : goal.returns-in_err-attr
returns-in_err-attr g c =
    let v = g.V.Visitor.view in
    let p = err_from_is_err_and c.from_residual.result c.from_residual.ensures.1 in
    visit_broken g.V.Visitor.met (through g.V.Visitor.met (v c.args.visitor.now) c.args.row.now) (v c.loop-next.visitor)
    c.loop-next.invariant.comes c.in-Some.ensures.steps c.in_err-attr.was
    ∙ told_err _ p.1 p.2

pub returns : goal.returns
returns g c =
    let v = g.V.Visitor.view in
    visit_end g.V.Visitor.met (through g.V.Visitor.met (v c.args.visitor.now) c.args.row.now) (v c.loop-next.visitor) c.loop-next.next-iterator.rest.now
    c.loop-next.invariant.comes c.in-None.ensures.steps.step
