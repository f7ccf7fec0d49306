use Rattle.std.proofs.Common.{List, Option, map, sym, ap, ◌∙◌}
use Rattle.std.specs.Option.{option_map}
use Rattle.requests.specs.Asks.{Key}
use Rattle.capped.specs.Values.{values}
use Rattle.keyed.specs.Keyed.{distinct}
use Rattle.keyed.specs.Rows.{place}
use Rattle.keyed.proofs.Keyed.{untaken_altered}
use Rattle.keyed.proofs.Placing.{unfound_mapped, untaken_mapped, found_mapped, replaced_mapped, distinct_replaced}
use Rattle.keyed.proofs.table.Table.replace.Goals as goal

pub invariant_of-self : goal.invariant_of-self
invariant_of-self g c =
    let m = g.R.Keyed in
    let row = m.means c.args.row in
    let rs = values c.args.self.now.rows in
    let d = c.args.self.now.differ in
    let e = ap (λ (k : Key). place (λ r. m.key_in (m.means r)) k rs) (sym c.key.ensures) ∙ sym c.place.ensures ∙ c.in_ok-place.was in
    record {
      differ =
          ap (λ (xs : List _). distinct m.key_in (map m.means xs)) c.replace.ensures.after
          ∙ ap (λ (xs : List _). distinct m.key_in xs) (replaced_mapped m.means m.key_in (m.key_in row) rs c.in_ok-place.place e d c.args.row)
          ∙ distinct_replaced m.key_in row (map m.means rs) d;
    }

pub returns-in_err-place : goal.returns-in_err-place
returns-in_err-place g c =
    let m = g.R.Keyed in
    let row = m.means c.args.row in
    let k = m.key_in row in
    let rs = values c.args.self.now.rows in
    let e = ap (λ (k : Key). place (λ r. m.key_in (m.means r)) k rs) (sym c.key.ensures) ∙ sym c.place.ensures ∙ c.in_err-place.was in
    record {
      answer = ap (λ (o : Option _). option_map m.means o) c.from_residual.ensures ∙ unfound_mapped m.means m.key_in k rs e;
      after = sym (untaken_altered m.key_in k (λ _. row) (map m.means rs) (untaken_mapped m.means m.key_in k rs e));
    }

pub returns : goal.returns
returns g c =
    let m = g.R.Keyed in
    let k = m.key_in (m.means c.args.row) in
    let rs = values c.args.self.now.rows in
    let e = ap (λ (k : Key). place (λ r. m.key_in (m.means r)) k rs) (sym c.key.ensures) ∙ sym c.place.ensures ∙ c.in_ok-place.was in
    record {
      answer = ap (λ (o : Option _). option_map m.means o) c.replace.ensures.answer ∙ found_mapped m.means m.key_in k rs c.in_ok-place.place e;
      after = ap (λ (xs : List _). map m.means xs) c.replace.ensures.after ∙ replaced_mapped m.means m.key_in k rs c.in_ok-place.place e c.args.self.now.differ c.args.row;
    }
