use Rattle.std.proofs.Common.{◌≡◌, ◌+◌, ◌≤◌, length, None, refl, arith}
use Rattle.std.proofs.lemmas.Result.{err_from_is_err_and}
use Rattle.requests.specs.Builders.{link_bytes}
use Rattle.requests.proofs.Built.{room_passed, short_exit, done, link_length}
use Rattle.requests.proofs.link.Xdp.write.Goals as goal

pub returns-in_err-check_room : goal.returns-in_err-check_room
returns-in_err-check_room g c =
    let x = c.args.self.now in
    let ex = g.E.Optional.value x.expected_fd in
    let bs = link_bytes c.args.flags c.args.family_header.now x.fd x.flags ex in
    let l = link_length c.args.flags c.args.family_header.now x.fd x.flags ex in
    let k : length bs ≡ 32 + c.from.result = omega (arith, l, c.from.ensures, c.nested_len-nested.ensures) in
    let p = err_from_is_err_and c.from_residual.result c.from_residual.ensures.1 in
    short_exit None refl c.from_residual.result bs c.args.out.now (32 + c.from.result) _ _ p.1 p.2 k c.in_err-check_room.ensures

pub returns : goal.returns
returns g c =
    let x = c.args.self.now in
    let out = c.args.out.now in
    let bs = link_bytes c.args.flags c.args.family_header.now x.fd x.flags (g.E.Optional.value x.expected_fd) in
    let r = room_passed (length out) (32 + c.from.result) _ c.in_ok-check_room.ensures in
    let h : c.put_link.result ≤ length out = omega (arith, r, c.from.ensures, c.put_link.ensures.end) in
    done None refl bs out c.put_link.new.out c.put_link.result c.put_link.ensures.puts h
