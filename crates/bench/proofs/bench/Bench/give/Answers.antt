use Rattle.std.proofs.Common.{◌≡◌, Some, sym, ap, ◌∙◌, arith}
use Rattle.std.proofs.lemmas.Grind.{common_steps}
use Rattle.std.proofs.lemmas.Result.{err_from_is_err_and}
use Rattle.requests.specs.Asks.{key_of}
use Rattle.requests.specs.FilterMessages.{filter_of}
use Rattle.queue.specs.Waiting.{waiting}
use Rattle.filters.specs.Held.{held}
use Rattle.filters.specs.Rows.{meaning}
use Rattle.bench.specs.Calls.{as_key}
use Rattle.bench.proofs.Giving.{given_key, given_filters, given_state, refused_key}
use Rattle.bench.proofs.bench.Bench.give.Goals as goal

pub returns-in_err-add : goal.returns-in_err-add
returns-in_err-add c =
    let b = c.args.self.now in
    let w = filter_of c.args.wanted in
    let g = key_of c.grant-key.result in
    let f = meaning c.in_ok-row.row in
    let made : c.new.result ≡ Some c.in_ok-row.row = grind (arith, common_steps) in
    let e = rw made at c.new.ensures in
    let r = c.from_residual-in_err-add in
    let p = err_from_is_err_and r.result r.ensures.1 in
    record {
      answer = refused_key w g (held b.filters) c.add.result _ _ r.result
          (given_key w g (held b.filters) f c.add.result c.grant-key.ensures e c.add.ensures.answer) c.in_err-add.was p.1 p.2;
      after = given_state (waiting b.queue) _ _ _ c.add.ensures.after
          (given_filters w g (held b.filters) f c.add.result c.grant-key.ensures e c.add.ensures.answer);
    }

pub returns : goal.returns
returns c =
    let b = c.args.self.now in
    let w = filter_of c.args.wanted in
    let g = key_of c.grant-key.result in
    let f = meaning c.in_ok-row.row in
    let made : c.new.result ≡ Some c.in_ok-row.row = grind (arith, common_steps) in
    let e = rw made at c.new.ensures in
    record {
      answer = sym (ap (as_key g) c.in_ok-add.was) ∙ given_key w g (held b.filters) f c.add.result c.grant-key.ensures e c.add.ensures.answer;
      after = given_state (waiting b.queue) _ _ _ c.add.ensures.after
          (given_filters w g (held b.filters) f c.add.result c.grant-key.ensures e c.add.ensures.answer);
    }
