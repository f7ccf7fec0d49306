use Rattle.std.proofs.Common.{ℕ, List, ap, ◌∙◌}
use Rattle.queue.specs.Waiting.{waiting}
use Rattle.bench.specs.Wholeness.{all_datagrams}
use Rattle.bench.proofs.Giving.{whole_either}
use Rattle.bench.proofs.bench.Bench.reply.Goals as goal

pub invariant_of-self : goal.invariant_of-self
invariant_of-self c =
    let b = c.args.self.now in
    record {
      whole =
          ap (λ (ws : List (List ℕ)). all_datagrams ws) c.append.ensures.after
          ∙ whole_either _ (waiting b.queue) (waiting c.args.reply.now) b.whole c.requires;
    }
