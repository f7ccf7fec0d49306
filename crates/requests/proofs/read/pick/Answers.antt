use Rattle.std.proofs.Common.{sym, ap, ◌∙◌, arith}
use Rattle.records.specs.declared.nlmsghdr.Nlmsghdr.{Nlmsghdr}
use Rattle.requests.proofs.Placing.{long_enough}
use Rattle.requests.proofs.Finding.{picked_xdp, picked_traffic}
use Rattle.requests.proofs.read.pick.Goals as goal

pub returns-in_err-header : goal.returns-in_err-header
returns-in_err-header c = rw c.from_residual.ensures (λ x w. omega (arith, c.in_err-header.ensures, long_enough x c.args.bytes.now w))

pub returns-then-header-eq-RTM_SETLINK : goal.returns-then-header-eq-RTM_SETLINK
returns-then-header-eq-RTM_SETLINK c = picked_xdp c.args.bytes.now c.pick_set_xdp.result (sym (ap (λ (h : Nlmsghdr). h.kind) c.in_ok-header.ensures.1) ∙ c.if-header-eq-RTM_SETLINK.true) c.pick_set_xdp.ensures

pub returns-else-header-eq-RTM_SETLINK : goal.returns-else-header-eq-RTM_SETLINK
returns-else-header-eq-RTM_SETLINK c = picked_traffic c.args.bytes.now c.pick_traffic.result c.in_ok-header.header.kind c.in_ok-header.header.flags (ap (λ (h : Nlmsghdr). h.kind) c.in_ok-header.ensures.1) (ap (λ (h : Nlmsghdr). h.flags) c.in_ok-header.ensures.1) c.pick_traffic.ensures
