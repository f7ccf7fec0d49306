use Rattle.std.proofs.Common.{◌+◌, ◌-◌, ◌<◌, ◌≤◌, ◌++◌, List, ℕ, length, ◌&&◌, get_or, nat_le, nat_lt, sym, ap, ◌∙◌, arith}
use Rattle.std.proofs.lemmas.Bool.{and_parts, leb-true, ltb-true}
use Rattle.capped.specs.Values.{values, room}
use Rattle.queue.specs.Cuts.{cut, total}
use Rattle.queue.proofs.Holding.{takes_room, pushed_on, grown_sum, grown_cut, each_set, room_is, room_not, full, chosen, passed_by}
use Rattle.queue.proofs.queue.Queue.join.Goals as goal

pub returns-in_err-extend-clause-answer : goal.returns-in_err-extend-clause-answer
returns-in_err-extend-clause-answer c =
    let q = c.args.self.now in
    let g = and_parts _ _ (sym c.may_grow.ensures ∙ c.if-not-may_grow.false) in
    let t = takes_room (values q.lens) (values q.bytes) q.sum c.args.message.now g.0 in
    let x = room_not _ _ (sym c.extend.ensures.answer ∙ c.in_err-extend.was) in
    full c.from_residual.result c.from_residual.ensures.0 ∙ sym (ap room (t ∙ x))

pub returns-in_err-extend-clause-after : goal.returns-in_err-extend-clause-after
returns-in_err-extend-clause-after c =
    let q = c.args.self.now in
    let g = and_parts _ _ (sym c.may_grow.ensures ∙ c.if-not-may_grow.false) in
    let t = takes_room (values q.lens) (values q.bytes) q.sum c.args.message.now g.0 in
    let x = room_not _ _ (sym c.extend.ensures.answer ∙ c.in_err-extend.was) in
    ap (cut (values q.lens)) (c.extend.ensures.after ∙ passed_by _ _ _ x) ∙ sym (passed_by _ _ _ (t ∙ x))

pub returns-then-not-may_grow-clause-after : goal.returns-then-not-may_grow-clause-after
returns-then-not-may_grow-clause-after c =
    let q = c.args.self.now in
    c.push.ensures.after ∙ pushed_on (values q.lens) (values q.bytes) q.sum c.args.message.now (sym c.may_grow.ensures ∙ c.if-not-may_grow.true)

pub invariant_of-self-2 : goal.invariant_of-self-2
invariant_of-self-2 c =
    let q = c.args.self.now in
    let ns = values q.lens in
    let m = c.args.message.now in
    let last = get_or ns (length ns - 1) 0 in
    let g = and_parts (nat_le 16 (length m) && nat_le (length m) 4096) (nat_lt 0 (length ns) && nat_le (last + length m) 4096) (sym c.may_grow.ensures ∙ c.if-not-may_grow.false) in
    let h = and_parts (nat_lt 0 (length ns)) (nat_le (last + length m) 4096) g.1 in
    let x = room_is (nat_le (length (values q.bytes) + length m) 16384) (sym c.extend.ensures.answer ∙ c.in_ok-extend.was) in
    let b = c.extend.ensures.after ∙ chosen _ _ _ x in
    let some : 0 < length ns = ltb-true 0 (length ns) h.0 in
    let z : last + length m ≤ 4096 = leb-true (last + length m) 4096 h.1 in
    let y : 16 ≤ get_or ns (length ns - 1) 0 = (q.each (length ns - 1) (omega arith)).0 in
    record {
      sum = ap (λ (b : List ℕ). length b) b ∙ grown_sum ns (values q.bytes) q.sum some m ∙ ap (λ (n : List ℕ). total n) (sym c.lengthen.ensures);
      each = rw c.lengthen.ensures (each_set ns (length ns - 1) (get_or ns (length ns - 1) 0 + length m) (omega arith) (omega arith, z) q.each);
    }

pub returns-clause-answer : goal.returns-clause-answer
returns-clause-answer c =
    let q = c.args.self.now in
    let g = and_parts _ _ (sym c.may_grow.ensures ∙ c.if-not-may_grow.false) in
    let t = takes_room (values q.lens) (values q.bytes) q.sum c.args.message.now g.0 in
    let x = room_is _ (sym c.extend.ensures.answer ∙ c.in_ok-extend.was) in
    sym (ap room (t ∙ x))

pub returns-clause-after : goal.returns-clause-after
returns-clause-after c =
    let q = c.args.self.now in
    let ns = values q.lens in
    let m = c.args.message.now in
    let g = and_parts _ _ (sym c.may_grow.ensures ∙ c.if-not-may_grow.false) in
    let h = and_parts _ _ g.1 in
    let t = takes_room ns (values q.bytes) q.sum m g.0 in
    let x = room_is (nat_le (length (values q.bytes) + length m) 16384) (sym c.extend.ensures.answer ∙ c.in_ok-extend.was) in
    let b = c.extend.ensures.after ∙ chosen _ _ _ x in
    ap (cut (values c.lengthen.new.lens)) b ∙ ap (λ (n : List ℕ). cut n (values q.bytes ++ m)) c.lengthen.ensures
    ∙ grown_cut ns (values q.bytes) q.sum (ltb-true _ _ h.0) m (leb-true _ _ h.1) ∙ sym (chosen _ _ _ (t ∙ x))
