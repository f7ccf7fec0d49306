use Rattle.std.proofs.Common.{ℕ, List, [], ◌∷◌, ◌++◌, ap, ◌∙◌}
use Rattle.queue.specs.Waiting.{waiting}
use Rattle.bench.proofs.Serving.{whole_answer}
use Rattle.bench.proofs.bench.Bench.answer.Goals as goal

pub reply-requires : goal.reply-requires
reply-requires c =
    whole_answer c.args.request.bytes.now _ (waiting c.new-reply.result) _ c.new-reply.ensures
    (c.put_alone.ensures ∙ ap (λ (d : List ℕ). waiting c.new-reply.result ++ (d ∷ [])) c.answer.ensures)
