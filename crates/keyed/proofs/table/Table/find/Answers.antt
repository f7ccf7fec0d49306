use Rattle.std.proofs.Common.{Option, sym, ap, ◌∙◌}
use Rattle.std.specs.Option.{option_map}
use Rattle.requests.specs.Asks.{key_of}
use Rattle.capped.specs.Values.{values}
use Rattle.keyed.proofs.Placing.{unfound_mapped, found_mapped}
use Rattle.keyed.proofs.table.Table.find.Goals as goal

pub returns-in_err-place : goal.returns-in_err-place
returns-in_err-place g c =
    let m = g.R.Keyed in
    ap (λ (o : Option _). option_map m.means o) c.from_residual.ensures
    ∙ unfound_mapped m.means m.key_in (key_of c.args.key) (values c.args.self.now.rows) (sym c.place.ensures ∙ c.in_err-place.was)

pub returns : goal.returns
returns g c =
    let m = g.R.Keyed in
    ap (λ (o : Option _). option_map m.means o) c.get.ensures
    ∙ found_mapped m.means m.key_in (key_of c.args.key) (values c.args.self.now.rows) c.in_ok-place.field-0 (sym c.place.ensures ∙ c.in_ok-place.was)
