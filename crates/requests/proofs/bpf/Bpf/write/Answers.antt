use Rattle.std.proofs.Common.{◌≡◌, ◌+◌, ◌≤◌, List, ℕ, length, ap, arith}
use Rattle.std.proofs.lemmas.Result.{err_from_is_err_and}
use Rattle.requests.specs.Table.{bpf_items}
use Rattle.requests.specs.Builders.{tc_bytes}
use Rattle.requests.specs.Refusals.{name_fault}
use Rattle.requests.proofs.Built.{room_passed, short_exit, done}
use Rattle.requests.proofs.Putting.{puts_same}
use Rattle.requests.proofs.Filters.{filter_length}
use Rattle.requests.proofs.bpf.Bpf.write.Goals as goal

pub returns-in_err-check_room : goal.returns-in_err-check_room
returns-in_err-check_room g c =
    let x = c.args.self.now in
    let class = g.C.Optional.value x.classid in
    let name = c.args.name.now in
    let bs = tc_bytes 44 c.args.flags c.args.family_header.now (bpf_items class x.fd name x.flags) in
    let l = filter_length class x.fd name x.flags c.args.flags c.args.family_header.now in
    let k : length bs ≡ 44 + c.from.result = omega (arith, l, c.from.ensures, c.options_len-nested.ensures, ap length c.in_ok-name.ensures.0) in
    let r = c.from_residual-in_err-check_room in
    let p = err_from_is_err_and r.result r.ensures.1 in
    let ok = c.in_ok-name.ensures.1 in
    short_exit (name_fault name) ok r.result bs c.args.out.now (44 + c.from.result) _ _ p.1 p.2 k c.in_err-check_room.ensures

pub returns : goal.returns
returns g c =
    let x = c.args.self.now in
    let out = c.args.out.now in
    let name = c.args.name.now in
    let bs = tc_bytes 44 c.args.flags c.args.family_header.now (bpf_items (g.C.Optional.value x.classid) x.fd name x.flags) in
    let r = room_passed (length out) (44 + c.from.result) _ c.in_ok-check_room.ensures in
    let h : c.put_filter.result ≤ length out = omega (arith, r, c.from.ensures, c.put_filter.ensures.end) in
    let ok = c.in_ok-name.ensures.1 in
    let p = puts_same _ _ _ bs _ _ (ap (λ (n : List ℕ). tc_bytes 44 c.args.flags c.args.family_header.now (bpf_items (g.C.Optional.value x.classid) x.fd n x.flags)) c.in_ok-name.ensures.0) c.put_filter.ensures.puts in
    done (name_fault name) ok bs out c.put_filter.new.out c.put_filter.result p h
