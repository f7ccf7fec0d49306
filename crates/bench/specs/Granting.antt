-- The key that an attach gets. Assumes nothing.
use Rattle.std.specs.Prelude.{◌≡◌, ℕ, Bool, true, false, cond, ◌&&◌, ◌||◌, List, [], ◌∷◌, Some, None, Option, ◌==◌, nat_le, refl}
use Rattle.std.proofs.Common.{sym, ap, subst, ◌∙◌, arith}
use Rattle.std.specs.List.{AllByRecursion}
use Rattle.std.specs.Option.{is_some, option_map}
use Rattle.std.specs.Str.{bytes_eq}
use Rattle.std.proofs.lemmas.Bool.Decides.{nat_tests}
use Rattle.requests.specs.Asks.{Key}
use Rattle.requests.specs.FilterMessages.{filter_fault}
use Rattle.requests.specs.Refusals.{first, interface_fault, name_fault}
use Rattle.requests.specs.declared.fault.ArgumentFault.{ArgumentFault}
use Rattle.requests.proofs.Standing.{first_none}
use Rattle.hosts.specs.Meaning.{Filter, bpf}
use Rattle.hosts.specs.Rules.{same_key}
use Rattle.filters.specs.Fitting.{passes, is_filter, filter_with, Stands}
use Rattle.filters.specs.Keys.{is_bpf, lowest_free, with_handle}
use Rattle.keyed.proofs.Keyed.{same_key_lem, and_left, and_right}
use Rattle.bench.specs.Serving.{prioritized, granted}
use Rattle.bench.specs.Paging.{filter_parts}

some_priority : (p : ℕ) → nat_le 1 (cond (p == 0) 49152 p) ≡ true
some_priority p = by (p == 0) refl
  where
    by : (b : Bool) → (p == 0) ≡ b → nat_le 1 (cond b 49152 p) ≡ true
    by true e = refl
    by false e = grind (arith, nat_tests)

-- by the parts that matter: an interface that passes, and numbers that are not 0
pub stands_by : (k : Key) (name : List ℕ) → interface_fault k.interface ≡ None → nat_le 1 k.priority ≡ true → nat_le 1 k.handle ≡ true → name_fault name ≡ None →
    is_filter (filter_with k bpf (Some name)) ≡ true
stands_by k name i p h n =
    let f : filter_fault k bpf (Some name) ≡ None = ap (λ (x : Option ArgumentFault). first x (name_fault name)) i ∙ n in
    ap (λ (x : Option ArgumentFault). passes x && ((nat_le 1 k.priority && nat_le 1 k.handle) && true)) f
    ∙ ap (λ (x : Bool). (x && nat_le 1 k.handle) && true) p ∙ ap (λ (x : Bool). x && true) h

pub granted_stands : (k : Key) (fs : List Filter) (name : List ℕ) → filter_fault k bpf (Some name) ≡ None → is_filter (filter_with (granted k fs) bpf (Some name)) ≡ true
granted_stands k fs name e = by (k.handle == 0) refl
  where
    parts : (interface_fault k.interface ≡ None) × (name_fault name ≡ None)
    parts = first_none (interface_fault k.interface) (name_fault name) e

    by : (b : Bool) → (k.handle == 0) ≡ b → is_filter (filter_with (cond b (with_handle (prioritized k) (lowest_free (prioritized k) fs)) (prioritized k)) bpf (Some name)) ≡ true
    by true q = stands_by (with_handle (prioritized k) (lowest_free (prioritized k) fs)) name parts.0 (some_priority k.priority) (grind (arith, nat_tests)) parts.1
    by false q = stands_by (prioritized k) name parts.0 (some_priority k.priority) (grind (arith, nat_tests)) parts.1

-- a key that a filter has is one that can stand
pub held_stands : (k : Key) (fs : List Filter) (name : List ℕ) → AllByRecursion Stands fs → is_bpf k fs ≡ true → name_fault name ≡ None → is_filter (filter_with k bpf (Some name)) ≡ true
held_stands k [] name a b n = let z : ◌≡◌ {A = ℕ} 0 1 = cc in absurd (omega arith)
held_stands k (f ∷ fs) name a b n = by (same_key k f.key) refl b (λ c. held_stands k fs name a.1 c n)
  where
    here : same_key k f.key ≡ true → is_filter (filter_with k bpf (Some name)) ≡ true
    here q =
        let p = (filter_parts f.key f.kind f.name a.0.0).0 in
        let i = (first_none (interface_fault f.key.interface) _ p).0 in
        let w = and_left (nat_le 1 f.key.priority && nat_le 1 f.key.handle) _ (and_right (passes (filter_fault f.key f.kind f.name)) _ a.0.0) in
        subst (λ (x : Key). is_filter (filter_with x bpf (Some name)) ≡ true) (sym (same_key_lem k f.key q))
        (stands_by f.key name i (and_left (nat_le 1 f.key.priority) _ w) (and_right (nat_le 1 f.key.priority) _ w) n)

    by : (x : Bool) → same_key k f.key ≡ x → ((x && bytes_eq f.kind bpf) || is_bpf k fs) ≡ true → (is_bpf k fs ≡ true → is_filter (filter_with k bpf (Some name)) ≡ true) → is_filter (filter_with k bpf (Some name)) ≡ true
    by true q b rest = here q
    by false q b rest = rest b

pub row_there : {R : Type 0} (f : R → Filter) (o : Option R) (b : Bool) (g : Filter) → b ≡ true → option_map f o ≡ cond b (Some g) None → is_some o ≡ true
row_there f None b g p q = let z : ◌≡◌ {A = Option Filter} None (Some g) = q ∙ ap (λ (x : Bool). cond x (Some g) None) p in grind arith
row_there f (Some r) b g p q = refl
