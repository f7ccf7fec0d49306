use Rattle.std.proofs.Common.{◌≡◌, Option, ap, ◌∙◌, arith}
use Rattle.std.specs.Option.{is_some}
use Rattle.std.proofs.lemmas.Grind.{common_steps}
use Rattle.requests.specs.Asks.{key_of}
use Rattle.hosts.specs.Meaning.{Filter}
use Rattle.keyed.proofs.Altering.{found_taken}
use Rattle.filters.specs.Keys.{taken}
use Rattle.filters.specs.Rows.{meaning}
use Rattle.filters.specs.Held.{held}
use Rattle.filters.proofs.Bpf.{key, mapped_some}
use Rattle.filters.proofs.store.Filters.remove.Goals as goal

pub returns-in_err-ok_or-clause-answer : goal.returns-in_err-ok_or-clause-answer
returns-in_err-ok_or-clause-answer c =
    let k = key_of c.args.key in
    let t : is_some c.remove.result ≡ taken k (held c.args.self.now) =
    mapped_some meaning c.remove.result ∙ ap (λ (o : Option Filter). is_some o) c.remove.ensures.answer ∙ found_taken key k (held c.args.self.now) in
    grind (arith, common_steps)

pub returns-clause-answer : goal.returns-clause-answer
returns-clause-answer c =
    let k = key_of c.args.key in
    let t : is_some c.remove.result ≡ taken k (held c.args.self.now) =
    mapped_some meaning c.remove.result ∙ ap (λ (o : Option Filter). is_some o) c.remove.ensures.answer ∙ found_taken key k (held c.args.self.now) in
    grind (arith, common_steps)
