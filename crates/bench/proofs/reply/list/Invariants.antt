use Rattle.std.proofs.Common.{◌≡◌, ◌*◌, ◌≤◌, [], drop}
use Rattle.requests.specs.Handles.{bits_of}
use Rattle.queue.specs.Cuts.{bulk}
use Rattle.queue.specs.Waiting.{waiting}
use Rattle.filters.specs.Held.{held}
use Rattle.bench.proofs.Listing.{onwards}
use Rattle.bench.proofs.reply.list.Given as goal

abbrev pub invariant-loop-row : goal.invariant-loop-row
invariant-loop-row l =
    (onwards l.hook.interface (bits_of l.hook.parent) (waiting l.reply) (drop l.row-index (held l.filters)) ≡ onwards l.hook.interface (bits_of l.hook.parent) [] (held l.filters))
    × (bulk (waiting l.reply) ≤ 324 * l.row-index)
