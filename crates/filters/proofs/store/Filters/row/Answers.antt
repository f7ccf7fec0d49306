use Rattle.std.proofs.Common.{◌≡◌, List, Option, ap, ◌∙◌, rules}
use Rattle.std.specs.List.{find}
use Rattle.std.specs.Option.{option_map}
use Rattle.std.proofs.lemmas.Iterator.{YieldsList-from_slice}
use Rattle.std.proofs.lemmas.Iterator.Search.{find_from_yields_List}
use Rattle.requests.specs.Asks.{key_of}
use Rattle.hosts.specs.Meaning.{Filter}
use Rattle.hosts.specs.Rules.{same_key}
use Rattle.filters.specs.Rows.{meaning}
use Rattle.filters.specs.declared.row.Row.{Row}
use Rattle.filters.proofs.Bpf.{lent_mapped, found_mapped}
use Rattle.filters.proofs.store.Filters.row.Goals as goal
use borrow.Author.Tests.{tests}

pub returns : goal.returns
returns c =
    let k = key_of c.args.key in
    let rs = c.rows.result.now in
    let e : option_map (λ r. r.now) c.find.result ≡ find (λ r. same_key k (meaning r).key) rs =
    find_from_yields_List (λ (r : Row). same_key k (meaning r).key) _ _ _ c.find.ensures.ran (YieldsList-from_slice rs cc) (λ x b q k. search (rules, tests)) in
    lent_mapped meaning c.find.result
    ∙ ap (λ (o : Option Row). option_map meaning o) e
    ∙ found_mapped meaning (λ (f : Filter). same_key k f.key) rs
    ∙ ap (λ (fs : List Filter). find (λ f. same_key k f.key) fs) c.rows.ensures
