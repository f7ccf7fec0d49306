use Rattle.std.proofs.Common.{◌≤◌, [], length, None, refl, arith, rules}
use Rattle.std.proofs.lemmas.Result.{err_from_is_err_and}
use Rattle.requests.specs.Builders.{tc_bytes}
use Rattle.requests.proofs.Built.{room_passed, short_exit, done, ends}
use Rattle.requests.proofs.Plain.{bare_length, bare_done}
use Rattle.requests.proofs.tc.write_bare.Goals as goal

pub returns-in_err-check_room : goal.returns-in_err-check_room
returns-in_err-check_room c =
    let bs = tc_bytes c.args.kind c.args.flags c.args.family_header.now [] in
    let l = bare_length c.args.kind c.args.flags c.args.family_header.now in
    let p = err_from_is_err_and c.from_residual.result c.from_residual.ensures.1 in
    short_exit None refl c.from_residual.result bs c.args.out.now 36 _ _ p.1 p.2 l c.in_err-check_room.ensures

pub returns : goal.returns
returns c =
    let out = c.args.out.now in
    let w = c.begin-writer.result in
    let bs = tc_bytes c.args.kind c.args.flags c.args.family_header.now [] in
    let r = room_passed (length out) 36 _ c.in_ok-check_room.ensures in
    let h : w.at ≤ length out = omega (arith, r, c.begin-writer.ensures.end) in
    let p = bare_done out w.out.now w.at c.args.kind c.args.flags c.args.family_header.now c.begin-writer.ensures.puts in
    ends None bs out w.out.now _ w.at _ (search rules) c.len.ensures (done None refl bs out w.out.now w.at p h)
