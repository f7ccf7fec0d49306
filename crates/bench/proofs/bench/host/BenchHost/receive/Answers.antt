use Rattle.std.proofs.Common.{◌≡◌, ℕ, List, length, pos, ap, ◌∙◌}
use Rattle.std.specs.Option.{ok_or}
use Rattle.queue.specs.Waiting.{waiting}
use Rattle.filters.specs.Held.{held}
use Rattle.bench.specs.Wholeness.{all_datagrams}
use Rattle.bench.proofs.Receiving.{answered, whole_behind}
use Rattle.bench.proofs.bench.host.BenchHost.receive.Goals as goal

pub returns : goal.returns
returns c =
    let b = c.args.self.now in
    let e = c.pop_into.ensures in
    let a = answered c.args.buffer.now c.if-buffer-lt-LONGEST_DATAGRAM.false (waiting b.queue) _ (held b.filters) c.pop_into.result _ b.whole e.answer e.after e.out in
    let v : c.ok_or.result ≡ ok_or c.pop_into.result (pos 11) = c.ok_or.ensures.value in
    rw v (record { done = (a.gives, a.leaves); laid = a.lays; sized = a.inside })

pub invariant_of-self : goal.invariant_of-self
invariant_of-self c =
    let b = c.args.self.now in
    record { whole = ap (λ (ws : List (List ℕ)). all_datagrams ws) c.pop_into.ensures.after ∙ whole_behind (length c.args.buffer.now) (waiting b.queue) b.whole }
