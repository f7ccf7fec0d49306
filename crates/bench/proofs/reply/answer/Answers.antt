use Rattle.std.proofs.Common.{ℤ, ap, ◌∙◌, w32}
use mir.ValLaws.{to_z-of_z}
use Rattle.records.specs.declared.nlmsghdr.Nlmsghdr.{Nlmsghdr}
use Rattle.bench.proofs.Replying.{answer_laid}
use Rattle.bench.proofs.reply.answer.Goals as goal

pub returns : goal.returns
returns c =
    let d = rw c.unwrap.ensures at c.decode.ensures in
    answer_laid c.args.request.bytes.now c.args.status _ _ c.header.result _ c.header.ensures
    (ap (λ (s : ℤ). record { status = s; header = c.unwrap.result.0 }) (to_z-of_z w32 c.args.status c.ranges.status)
    ∙ ap (λ (h : Nlmsghdr). record { status = c.args.status; header = h }) d.1)
    c.put.ensures c.put-2.ensures
