use Rattle.std.proofs.Common.{refl, ◌∙◌, ap, rules}
use Rattle.reader.proofs.Refusing.{found, row_found, refused_in}
use Rattle.reader.proofs.reply.texts_of.Goals as goal

pub returns : goal.returns
returns c =
    let e = found _ (λ f x r q k. search rules) c.new.result c.find_map-row.new.self _ c.find_map-row.result c.find_map-row.ensures.ran c.find_map-row.ensures.runs in
    c.new-2.ensures ∙ ap (λ r. r.now) c.unwrap_or.ensures ∙ row_found c.new.result.rest.now c.find_map-row.result _ _ refl e ∙ ap refused_in c.new.ensures.rest
