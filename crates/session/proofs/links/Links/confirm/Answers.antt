use Rattle.std.proofs.Common.{Option, map, sym, ap, ◌∙◌, refl}
use Rattle.std.specs.Option.{option_map}
use Rattle.requests.specs.Asks.{key_of}
use Rattle.keyed.specs.Keyed.{altered}
use Rattle.keyed.proofs.Altering.{unfound, replaced_altered}
use Rattle.keyed.proofs.Keyed.{untaken_altered}
use Rattle.session.specs.Linked.{Link, link_of, with_descriptor}
use Rattle.session.specs.Held.{links_of}
use Rattle.session.proofs.links.Links.confirm.Goals as goal

pub returns-in-Some : goal.returns-in-Some
returns-in-Some c =
    let t = c.args.self.now.table in
    let ls = links_of c.args.self.now in
    let l = link_of c.in-Some.link in
    let f = sym c.find.ensures ∙ ap (λ (o : Option _). option_map link_of o) c.in-Some.is in
    c.replace.ensures.after
    ∙ ap (λ (x : Link). map (altered (λ (y : Link). y.key) x.key (λ _. x)) ls) c.with_descriptor.ensures
    ∙ replaced_altered (λ (y : Link). y.key) (key_of c.args.key) (with_descriptor c.args.descriptor) l ls t.differ f refl

pub returns-in_default : goal.returns-in_default
returns-in_default c =
    let ls = links_of c.args.self.now in
    let f = sym c.find.ensures ∙ ap (λ (o : Option _). option_map link_of o) c.in_default.is in
    let n = unfound (λ (y : Link). y.key) (key_of c.args.key) ls f in
    sym (untaken_altered (λ (y : Link). y.key) (key_of c.args.key) (with_descriptor c.args.descriptor) ls n)
