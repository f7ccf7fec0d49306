use Rattle.std.proofs.Common.{Option, ap, ◌∙◌}
use Rattle.std.specs.Option.{is_some}
use Rattle.requests.specs.Asks.{key_of}
use Rattle.hosts.specs.Meaning.{Filter}
use Rattle.filters.specs.Rows.{meaning}
use Rattle.filters.specs.Held.{held}
use Rattle.filters.proofs.Bpf.{is_bpf_of, mapped_some}
use Rattle.filters.proofs.store.Filters.has_bpf.Goals as goal

pub returns : goal.returns
returns c =
    c.is_some.ensures ∙ mapped_some (λ r. meaning r.now) c.bpf.result ∙ ap (λ (o : Option Filter). is_some o) c.bpf.ensures
    ∙ is_bpf_of (key_of c.args.key) (held c.args.self.now) c.args.self.now.table.differ
