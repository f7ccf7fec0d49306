use Rattle.std.proofs.Common.{◌≤◌, length, None, refl, arith, rules}
use Rattle.std.proofs.lemmas.Result.{err_from_is_err_and}
use Rattle.requests.specs.Table.{clsact_items}
use Rattle.requests.specs.Builders.{tc_bytes}
use Rattle.requests.proofs.Built.{room_passed, short_exit, done, ends}
use Rattle.requests.proofs.Plain.{clsact_length, clsact_done}
use Rattle.requests.proofs.tc.write_clsact.Goals as goal

pub returns-in_err-check_room : goal.returns-in_err-check_room
returns-in_err-check_room c =
    let bs = tc_bytes 36 c.args.flags c.args.family_header.now clsact_items in
    let l = clsact_length c.args.flags c.args.family_header.now in
    let p = err_from_is_err_and c.from_residual.result c.from_residual.ensures.1 in
    short_exit None refl c.from_residual.result bs c.args.out.now 48 _ _ p.1 p.2 l c.in_err-check_room.ensures

pub returns : goal.returns
returns c =
    let out = c.args.out.now in
    let w = c.put_attribute.new.self in
    let bs = tc_bytes 36 c.args.flags c.args.family_header.now clsact_items in
    let r = room_passed (length out) 48 _ c.in_ok-check_room.ensures in
    let h : w.at ≤ length out = omega (arith, r, c.put_attribute.ensures.end, c.begin-writer.ensures.end) in
    let p = clsact_done out _ w.out.now _ w.at c.args.flags c.args.family_header.now c.begin-writer.ensures.puts c.put_attribute.ensures.puts in
    ends None bs out w.out.now _ w.at _ (search rules) c.len.ensures (done None refl bs out w.out.now w.at p h)
