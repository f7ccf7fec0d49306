use Rattle.std.proofs.Common.{rules, arith, ◌≡◌, true, sym, ◌∙◌, true≢false}
use Rattle.std.proofs.lemmas.Grind.{common_steps}
use Rattle.requests.specs.Asks.{asks}
use Rattle.requests.specs.declared.request.Request.{Request}
use Rattle.requests.specs.declared.request.Request.TheVariants.{SetXdp, AddClsact, Attach, Replace, Remove, List}
use Rattle.requests.specs.contracts.request.RequestPartialEq.TheImpl as derived
use Rattle.rehearse.proofs.trial.same_request.Goals as goal

-- what the derived `==` tells of two requests, variant by variant
same : (a b : Request) → derived.ghosts.eq a b ≡ true → asks a ≡ asks b
same (SetXdp x) (SetXdp y) h = grind (arith, common_steps)
same (AddClsact x) (AddClsact y) h = search rules
same (Attach k p) (Attach l q) h = search rules
same (Replace k p) (Replace l q) h = search rules
same (Remove k) (Remove l) h = search rules
same (List k) (List l) h = search rules
same a b h = absurd (true≢false (sym h))

-- src/trial.rt
pub returns : goal.returns
returns c h = same _ _ (sym c.eq.ensures ∙ h)
