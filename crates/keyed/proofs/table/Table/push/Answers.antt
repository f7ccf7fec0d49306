use Rattle.std.proofs.Common.{List, map, length, nat_lt, ap, sym, ◌∙◌}
use Rattle.requests.specs.Asks.{Key}
use Rattle.capped.specs.Values.{values}
use Rattle.keyed.specs.Keyed.{distinct}
use Rattle.keyed.specs.Rows.{admitted}
use Rattle.keyed.proofs.Placing.{admitted_free, distinct_pushed}
use Rattle.keyed.proofs.table.Table.push.Goals as goal

pub invariant_of-self : goal.invariant_of-self
invariant_of-self g c =
    let m = g.R.Keyed in
    let t = c.args.self.now in
    let rs = values t.rows in
    let a = ap (λ (k : Key). admitted m.key_in g.row.N k (map m.means rs)) (sym c.key.ensures) ∙ sym c.admits.ensures ∙ c.in_ok-admits.was in
    let n = admitted_free _ _ a in
    record { differ = ap (λ (xs : List _). distinct m.key_in (map m.means xs)) c.push.ensures.after ∙ distinct_pushed m.means m.key_in rs c.args.row (nat_lt (length rs) g.row.N) t.differ n }
