use Rattle.requests.specs.Handles.{bits_of}
use Rattle.filters.specs.Held.{held}
use Rattle.filters.proofs.Finding.{held_stand}
use Rattle.bench.proofs.Serving.{whole_listing}
use Rattle.bench.proofs.bench.Bench.list.Goals as goal

pub reply-requires : goal.reply-requires
reply-requires c =
    let t = c.args.self.now.filters in
    whole_listing c.args.hook.interface (bits_of c.args.hook.parent) (held t) _ (held_stand t) c.list-reply.ensures
