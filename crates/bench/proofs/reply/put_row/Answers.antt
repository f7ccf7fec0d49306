use Rattle.std.proofs.Common.{Result, is_ok, ap, sym, ◌∙◌}
use Rattle.queue.specs.Cuts.{joined}
use Rattle.queue.specs.Waiting.{waiting}
use Rattle.filters.specs.Fitting.{Stands}
use Rattle.filters.specs.Rows.{meaning}
use Rattle.bench.proofs.Replying.{told_written, told_front, told_room, has_room, not_full, ok_same}
use Rattle.bench.proofs.reply.put_row.Goals as goal

pub unwrap-n-requires : goal.unwrap-n-requires
unwrap-n-requires c =
    let row = c.args.row.now in
    ap (λ (r : Result _ _). is_ok r) (told_written c.args.flags (meaning row) _ c.write.result (row.ok, row.bounds) c.filter.ensures c.write.ensures.result)

pub unwrap-requires : goal.unwrap-requires
unwrap-requires c =
    let row = c.args.row.now in
    let f = meaning row in
    let s : Stands f = (row.ok, row.bounds) in
    let n = ok_same _ _ (sym c.unwrap-n.ensures ∙ told_written c.args.flags f _ c.write.result s c.filter.ensures c.write.ensures.result) in
    let after = rw c.unwrap-n.ensures at c.write.ensures.after in
    let front = told_front c.args.flags f _ c.unwrap-n.result _ _ c.filter.ensures n after in
    let room = told_room c.args.flags f s in
    ap (λ (r : Result _ _). is_ok r) (not_full (waiting c.args.reply.now) _ _ front room.0 room.1 c.requires c.join.result c.join.ensures.answer)

pub returns : goal.returns
returns c =
    let row = c.args.row.now in
    let f = meaning row in
    let s : Stands f = (row.ok, row.bounds) in
    let ws = waiting c.args.reply.now in
    let n = ok_same _ _ (sym c.unwrap-n.ensures ∙ told_written c.args.flags f _ c.write.result s c.filter.ensures c.write.ensures.result) in
    let after = rw c.unwrap-n.ensures at c.write.ensures.after in
    let front = told_front c.args.flags f _ c.unwrap-n.result _ _ c.filter.ensures n after in
    let room = told_room c.args.flags f s in
    has_room ws _ _ front room.0 room.1 c.requires (joined ws) _ c.join.ensures.after
