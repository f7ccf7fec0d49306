use Rattle.std.proofs.Common.{◌+◌, [], ◌∷◌, ◌++◌, List, ℕ, length, nat_le, sym, ap, ◌∙◌, arith}
use Rattle.capped.specs.Values.{values, room}
use Rattle.queue.specs.Cuts.{cut, total}
use Rattle.queue.proofs.Holding.{takes_room, pushed_sum, pushed_cut, each_more, room_is, room_not, full, chosen, passed_by, place_left, below, up_to, sized}
use Rattle.queue.proofs.queue.Queue.push.Goals as goal

pub returns-in_err-extend-clause-answer : goal.returns-in_err-extend-clause-answer
returns-in_err-extend-clause-answer c =
    let q = c.args.self.now in
    let t = takes_room (values q.lens) (values q.bytes) q.sum c.args.datagram.now (sym c.is_sized.ensures ∙ c.if-not-is_sized.false) in
    let x = room_not _ _ (sym c.extend.ensures.answer ∙ c.in_err-extend.was) in
    full c.from_residual.result c.from_residual.ensures.0 ∙ sym (ap room (t ∙ x))

pub returns-in_err-extend-clause-after : goal.returns-in_err-extend-clause-after
returns-in_err-extend-clause-after c =
    let q = c.args.self.now in
    let t = takes_room (values q.lens) (values q.bytes) q.sum c.args.datagram.now (sym c.is_sized.ensures ∙ c.if-not-is_sized.false) in
    let x = room_not _ _ (sym c.extend.ensures.answer ∙ c.in_err-extend.was) in
    ap (cut (values q.lens)) (c.extend.ensures.after ∙ passed_by _ _ _ x) ∙ sym (passed_by _ _ _ (t ∙ x))

pub invariant_of-self-2 : goal.invariant_of-self-2
invariant_of-self-2 c =
    let q = c.args.self.now in
    let d = c.args.datagram.now in
    let z = sym c.is_sized.ensures ∙ c.if-not-is_sized.false in
    let x = room_is (nat_le (length (values q.bytes) + length d) 16384) (sym c.extend.ensures.answer ∙ c.in_ok-extend.was) in
    let b = c.extend.ensures.after ∙ chosen _ _ _ x in
    let n = c.push.ensures.after ∙ chosen _ _ _ (below _ _ (place_left q (length d) z x)) in
    record {
      sum = ap (λ (b : List ℕ). length b) b ∙ pushed_sum (values q.lens) (values q.bytes) q.sum d ∙ ap (λ (n : List ℕ). total n) (sym n);
      each = rw n (each_more (values q.lens) (length d ∷ []) q.each (sized (length d) z, tt));
    }

pub returns-clause-answer : goal.returns-clause-answer
returns-clause-answer c =
    let q = c.args.self.now in
    let d = c.args.datagram.now in
    let z = sym c.is_sized.ensures ∙ c.if-not-is_sized.false in
    let t = takes_room (values q.lens) (values q.bytes) q.sum d z in
    let x = room_is (nat_le (length (values q.bytes) + length d) 16384) (sym c.extend.ensures.answer ∙ c.in_ok-extend.was) in
    let p = place_left q (length d) z x in
    c.push.ensures.answer ∙ ap room (up_to (length (values q.lens) + 1) 1024 (omega arith) ∙ sym (t ∙ x))

pub returns-clause-after : goal.returns-clause-after
returns-clause-after c =
    let q = c.args.self.now in
    let d = c.args.datagram.now in
    let z = sym c.is_sized.ensures ∙ c.if-not-is_sized.false in
    let t = takes_room (values q.lens) (values q.bytes) q.sum d z in
    let x = room_is (nat_le (length (values q.bytes) + length d) 16384) (sym c.extend.ensures.answer ∙ c.in_ok-extend.was) in
    let b = c.extend.ensures.after ∙ chosen _ _ _ x in
    let n = c.push.ensures.after ∙ chosen _ _ _ (below _ _ (place_left q (length d) z x)) in
    ap (cut (values c.push.new.self)) b ∙ ap (λ (n : List ℕ). cut n (values q.bytes ++ d)) n ∙ pushed_cut (values q.lens) (values q.bytes) q.sum d
    ∙ sym (chosen _ _ _ (t ∙ x))
