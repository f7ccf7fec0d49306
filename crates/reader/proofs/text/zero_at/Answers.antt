use Rattle.std.proofs.Common.{◌≡◌, ◌==◌, ℕ, ◌≤◌, nat_lt, cond, Option, Some, None, unwrap_or, length, ap, ◌∙◌, arith, rules, tests}
use Rattle.std.proofs.lemmas.Bool.Decides.{nat_tests}
use Rattle.std.proofs.lemmas.Iterator.{YieldsList-from_slice}
use Rattle.std.proofs.lemmas.Iterator.Search.{position_from_yields_List}
use Rattle.std.proofs.lemmas.List.Sums.{prefix_len-le-length}
use Rattle.reader.specs.Names.{nonzero}
use Rattle.reader.proofs.text.zero_at.Goals as goal

-- a place that is the length where nothing was found
or_length : (k n : ℕ) → k ≤ n → unwrap_or (cond (nat_lt k n) (Some k) None) n ≡ k
or_length k n h = grind (arith, nat_tests)

pub returns : goal.returns
returns c =
    let p = c.args.payload.now in
    let e = position_from_yields_List (λ b. b == 0) _ _ c.position.result c.position.ensures.ran (YieldsList-from_slice p cc) (λ x b q k. search (rules, tests)) in
    c.unwrap_or.ensures ∙ ap (λ (o : Option ℕ). unwrap_or o (length p)) e ∙ or_length _ _ (prefix_len-le-length nonzero p)
