use Rattle.std.proofs.Common.{ℕ, List, [], ◌∷◌, ◌++◌, Result, is_ok, refl, ap}
use Rattle.queue.specs.Waiting.{waiting}
use Rattle.bench.proofs.Replying.{has_room, not_full}
use Rattle.bench.proofs.reply.put_alone.Goals as goal

pub unwrap-requires : goal.unwrap-requires
unwrap-requires c =
    let m = c.args.message.now in
    ap (λ (r : Result _ _). is_ok r) (not_full (waiting c.args.reply.now) m m refl c.requires.0 c.requires.1.0 c.requires.1.1 c.push.result c.push.ensures.answer)

pub returns : goal.returns
returns c =
    let ws = waiting c.args.reply.now in
    let m = c.args.message.now in
    has_room ws m m refl c.requires.0 c.requires.1.0 c.requires.1.1 (λ (d : List ℕ). ws ++ (d ∷ [])) _ c.push.ensures.after
