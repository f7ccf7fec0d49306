use Rattle.std.proofs.Common.{◌≡◌, ℕ, List, Option, map, true, Some, None, Ok, sym, ap, ◌∙◌, refl, arith}
use Rattle.std.specs.Option.{is_some, option_map}
use Rattle.std.proofs.lemmas.Grind.{common_steps}
use Rattle.requests.specs.Asks.{Key, key_of}
use Rattle.requests.specs.Refusals.{name_fault}
use Rattle.hosts.specs.Meaning.{Filter}
use Rattle.keyed.specs.Keyed.{altered}
use Rattle.keyed.proofs.Altering.{replaced_altered}
use Rattle.filters.specs.Keys.{is_bpf, bpf_of, named, renaming}
use Rattle.filters.specs.Rows.{meaning}
use Rattle.filters.specs.Held.{held}
use Rattle.filters.proofs.Bpf.{key, mapped_some, is_bpf_of, bpf_there, told_apart}
use Rattle.filters.proofs.store.Filters.rename.Goals as goal

may_rename : (k : Key) (name : List ℕ) (fs : List Filter) → name_fault name ≡ None → is_bpf k fs ≡ true → Ok tt ≡ renaming k name fs
may_rename k name fs e b = grind arith

pub returns-in_err-row-clause-answer : goal.returns-in_err-row-clause-answer
returns-in_err-row-clause-answer c =
    let k = key_of c.args.key in
    let fs = held c.args.self.now in
    let t : is_some c.bpf.result ≡ is_bpf k fs =
    mapped_some (λ r. meaning r.now) c.bpf.result ∙ ap (λ (o : Option Filter). is_some o) c.bpf.ensures ∙ is_bpf_of k fs c.args.self.now.table.differ in
    grind (arith, common_steps)

pub returns-clause-answer : goal.returns-clause-answer
returns-clause-answer c =
    let k = key_of c.args.key in
    let fs = held c.args.self.now in
    let n : c.in_ok-name.name.bytes.now ≡ c.args.name.now = grind (arith, common_steps) in
    let b : c.bpf.result ≡ Some c.in_ok-row.row = grind (arith, common_steps) in
    let t : is_some c.bpf.result ≡ is_bpf k fs =
    mapped_some (λ r. meaning r.now) c.bpf.result ∙ ap (λ (o : Option Filter). is_some o) c.bpf.ensures ∙ is_bpf_of k fs c.args.self.now.table.differ in
    may_rename k c.args.name.now fs (ap (λ (name : List ℕ). name_fault name) (sym n) ∙ c.in_ok-name.name.sound) (sym t ∙ ap (λ (o : Option _). is_some o) b)

pub returns-clause-after : goal.returns-clause-after
returns-clause-after c =
    let k = key_of c.args.key in
    let fs = held c.args.self.now in
    let f = meaning c.in_ok-row.row.now in
    let n : c.in_ok-name.name.bytes.now ≡ c.args.name.now = grind (arith, common_steps) in
    let b : c.bpf.result ≡ Some c.in_ok-row.row = grind (arith, common_steps) in
    let o : bpf_of k fs ≡ Some f = sym c.bpf.ensures ∙ ap (λ (o : Option _). option_map (λ r. meaning r.now) o) b in
    let p = bpf_there _ f o in
    let q : c.renamed.result ≡ Some c.unwrap-named.result = grind (arith, common_steps) in
    let r : option_map meaning c.renamed.result ≡ Some (meaning c.unwrap-named.result) = ap (λ (o : Option _). option_map meaning o) q in
    let m : meaning c.unwrap-named.result ≡ named f c.args.name.now = told_apart _ _ _ (sym r ∙ c.renamed.ensures) ∙ ap (λ (t : List ℕ). named f t) n in
    c.replace.ensures.after
    ∙ ap (λ (x : Filter). map (altered key x.key (λ _. x)) fs) m
    ∙ replaced_altered key k (λ (x : Filter). named x c.args.name.now) f fs c.args.self.now.table.differ p.0 refl
