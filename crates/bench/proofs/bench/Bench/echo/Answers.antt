use Rattle.std.proofs.Common.{ℕ, List, [], ◌∷◌, ◌++◌, length, pos, ap, ◌∙◌, arith}
use Rattle.queue.specs.Cuts.{joined}
use Rattle.queue.specs.Waiting.{waiting}
use Rattle.filters.specs.Rows.{meaning}
use Rattle.bench.specs.Replies.{told_bytes, answer_bytes}
use Rattle.bench.proofs.Replying.{answer_room}
use Rattle.bench.proofs.Serving.{whole_echo, echo_bulk}
use Rattle.bench.proofs.bench.Bench.echo.Goals as goal

pub put_alone-requires : goal.put_alone-requires
put_alone-requires c =
    let row = c.args.row.now in
    let l = ap (λ (d : List ℕ). length d) c.answer.ensures in
    let r = answer_room c.args.request.bytes.now (pos 0) in
    (omega (arith, l, r.0), (omega (arith, l, r.1), echo_bulk c.args.flags (meaning row) _ _ (row.ok, row.bounds) c.new-reply.ensures c.put_row.ensures))

pub reply-requires : goal.reply-requires
reply-requires c =
    let row = c.args.row.now in
    let q = c.args.request.bytes.now in
    let first = c.put_row.ensures ∙ ap (λ (ws : List (List ℕ)). joined ws (told_bytes c.args.flags (meaning row))) c.new-reply.ensures in
    whole_echo c.args.flags (meaning row) q (pos 0) _ c.ranges.flags.fits (row.ok, row.bounds)
    (c.put_alone.ensures ∙ ap (λ (d : List ℕ). waiting c.put_row.new.reply ++ (d ∷ [])) c.answer.ensures ∙ ap (λ (ws : List (List ℕ)). ws ++ (answer_bytes q (pos 0) ∷ [])) first)
