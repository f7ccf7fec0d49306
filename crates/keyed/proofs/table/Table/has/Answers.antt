use Rattle.std.proofs.Common.{Option, ℕ, ap, ◌∙◌}
use Rattle.std.specs.Option.{is_some}
use Rattle.requests.specs.Asks.{key_of}
use Rattle.capped.specs.Values.{values}
use Rattle.keyed.proofs.Placing.{taken_mapped}
use Rattle.keyed.proofs.table.Table.has.Goals as goal

pub returns : goal.returns
returns g c =
    c.is_some.ensures ∙ ap (λ (o : Option ℕ). is_some o) c.place.ensures
    ∙ taken_mapped g.R.Keyed.means g.R.Keyed.key_in (key_of c.args.key) (values c.args.self.now.rows)
