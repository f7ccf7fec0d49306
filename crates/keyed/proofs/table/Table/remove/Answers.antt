use Rattle.std.proofs.Common.{List, Option, map, sym, ap, ◌∙◌}
use Rattle.std.specs.Option.{option_map}
use Rattle.requests.specs.Asks.{key_of}
use Rattle.capped.specs.Values.{values}
use Rattle.keyed.specs.Keyed.{distinct}
use Rattle.keyed.proofs.Keyed.{untaken_without, distinct_without}
use Rattle.keyed.proofs.Placing.{unfound_mapped, untaken_mapped, found_mapped, removed_mapped}
use Rattle.keyed.proofs.table.Table.remove.Goals as goal

pub invariant_of-self : goal.invariant_of-self
invariant_of-self g c =
    let m = g.R.Keyed in
    let k = key_of c.args.key in
    let rs = values c.args.self.now.rows in
    let e = sym c.place.ensures ∙ c.in_ok-place.was in
    record {
      differ =
          ap (λ (xs : List _). distinct m.key_in (map m.means xs)) c.remove.ensures.after
          ∙ ap (λ (xs : List _). distinct m.key_in xs) (removed_mapped m.means m.key_in k rs c.in_ok-place.place e c.args.self.now.differ)
          ∙ distinct_without m.key_in k (map m.means rs) c.args.self.now.differ;
    }

pub returns-in_err-place : goal.returns-in_err-place
returns-in_err-place g c =
    let m = g.R.Keyed in
    let k = key_of c.args.key in
    let rs = values c.args.self.now.rows in
    let e = sym c.place.ensures ∙ c.in_err-place.was in
    record {
      answer = ap (λ (o : Option _). option_map m.means o) c.from_residual.ensures ∙ unfound_mapped m.means m.key_in k rs e;
      after = sym (untaken_without m.key_in k (map m.means rs) (untaken_mapped m.means m.key_in k rs e));
    }

pub returns : goal.returns
returns g c =
    let m = g.R.Keyed in
    let k = key_of c.args.key in
    let rs = values c.args.self.now.rows in
    let e = sym c.place.ensures ∙ c.in_ok-place.was in
    record {
      answer = ap (λ (o : Option _). option_map m.means o) c.remove.ensures.answer ∙ found_mapped m.means m.key_in k rs c.in_ok-place.place e;
      after = ap (λ (xs : List _). map m.means xs) c.remove.ensures.after ∙ removed_mapped m.means m.key_in k rs c.in_ok-place.place e c.args.self.now.differ;
    }
