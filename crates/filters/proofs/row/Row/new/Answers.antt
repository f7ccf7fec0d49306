use Rattle.std.proofs.Common.{ℕ, List, Option, sym, ap, ◌∙◌}
use Rattle.std.specs.Option.{option_map}
use Rattle.requests.specs.Asks.{key_of}
use Rattle.filters.specs.Texts.{said}
use Rattle.filters.specs.Fitting.{is_filter, filter_with}
use Rattle.filters.proofs.row.Row.new.Goals as goal

pub invariant_of-result-clause-ok : goal.invariant_of-result-clause-ok
invariant_of-result-clause-ok c =
    let k = key_of c.args.filter.key in
    ap (λ (t : List ℕ). is_filter (filter_with k t (option_map said c.perhaps.result))) c.of.ensures
    ∙ ap (λ (n : Option (List ℕ)). is_filter (filter_with k c.args.filter.kind.now n)) c.perhaps.ensures
    ∙ sym c.if-not-is_filter.ensures
