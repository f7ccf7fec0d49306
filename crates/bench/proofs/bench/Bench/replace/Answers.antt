use Rattle.std.proofs.Common.{sym}
use Rattle.requests.specs.Asks.{key_of}
use Rattle.filters.specs.Held.{held}
use Rattle.filters.proofs.Finding.{held_stand}
use Rattle.bench.specs.Granting.{held_stands, row_there}
use Rattle.bench.proofs.bench.Bench.replace.Goals as goal

pub unwrap-row-requires : goal.unwrap-row-requires
unwrap-row-requires c =
    let t = c.args.self.now.filters in
    row_there _ _ _ _ (held_stands (key_of c.args.key) (held t) c.args.name.now (held_stand t) (sym c.if-not-has_bpf.ensures) c.requires) c.bpf.ensures
