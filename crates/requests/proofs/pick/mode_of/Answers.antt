use Rattle.std.proofs.Common.{rules, tests, ◌==◌, [], ◌∷◌, bit_and, ap, ◌∙◌}
use Rattle.std.specs.Option.{unwrap_or}
use Rattle.std.proofs.lemmas.Iterator.{YieldsList-from_slice}
use Rattle.std.proofs.lemmas.Iterator.Search.{find_from_yields_List}
use Rattle.requests.specs.declared.mode.XdpMode.TheVariants.{Default, Skb, Driver, Hardware}
use Rattle.requests.specs.Modes.{mode_flags}
use Rattle.requests.proofs.Finding.{mode_found}
use Rattle.requests.proofs.pick.mode_of.Goals as goal

pub returns : goal.returns
returns c =
    let f = find_from_yields_List (λ m. mode_flags m == bit_and c.args.flags 14) _ _ c.find.result c.find.ensures.ran
    (YieldsList-from_slice (Default ∷ Skb ∷ Driver ∷ Hardware ∷ []) cc)
    (λ x b q k. search (rules, tests)) in
    c.unwrap_or.ensures ∙ ap (λ o. unwrap_or o Default) (c.copied.ensures ∙ f) ∙ mode_found c.args.flags
