use Rattle.std.proofs.Common.{◌≡◌}
use Rattle.reader.specs.Visits.{through}
use Rattle.reader.proofs.visit.visit.Given as goal

abbrev pub invariant-loop-next : goal.invariant-loop-next
invariant-loop-next g l =
    record {
      can : (goal.iterator-loop-next g).can_next l.next-iterator;
      ends : (goal.iterator-loop-next g).is_finite l.next-iterator;
      comes : through g.V.Visitor.met (g.V.Visitor.view l.initial.visitor) l.row ≡ through g.V.Visitor.met (g.V.Visitor.view l.visitor) l.next-iterator.rest.now;
    }
