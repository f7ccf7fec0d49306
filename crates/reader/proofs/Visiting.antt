-- A walk over a row, for any visitor. Assumes nothing.
use Rattle.std.proofs.Common.{◌≡◌, ℕ, List, Some, Ok, Err, Result, sym, ap, ◌∙◌}
use Rattle.reader.specs.Walks.{Step, end, fault, item, on_step, Next}
use Rattle.reader.specs.Rows.{attribute_step, attributes, attribute_of}
use Rattle.records.specs.Layouts.{Attribute}
use Rattle.reader.specs.declared.fault.AttributeFault.{AttributeFault}
use Rattle.reader.specs.declared.attribute.NlAttr.{NlAttr}
use Rattle.reader.proofs.Walking.{came, failed}
use Rattle.reader.proofs.Attributing.{attributes_step}
use Rattle.reader.specs.Visits.{then, told, throughout, through}

-- what the exit of a `?` says
pub told_err : {S : Type 0} {r : Result (Unit {0}) AttributeFault} {x f : AttributeFault} (s : S) → r ≡ Err x → x ≡ f → Err f ≡ told r s
told_err s p q = ap Err (sym q) ∙ ap (λ y. told y s) (sym p)

-- a walk that comes to `all`, as it stands at s before `rest`
module _ {S : Type 0} (met : S → Attribute → Result S AttributeFault) (all : Result S AttributeFault) where
  here : (s : S) (rest : List ℕ) (x : Step Attribute AttributeFault) → all ≡ through met s rest → attribute_step rest ≡ x → all ≡ throughout met s (on_step attributes x)
  here s rest x i e = i ∙ ap (throughout met s) (attributes_step rest ∙ ap (on_step attributes) e)

  met_one : (s : S) (rest after : List ℕ) (a : Attribute) (x : Result S AttributeFault) → all ≡ through met s rest → attribute_step rest ≡ item a after → met s a ≡ x →
      all ≡ then x (λ t. throughout met t (attributes after))
  met_one s rest after a x i e p = here s rest (item a after) i e ∙ ap (λ y. then y (λ t. throughout met t (attributes after))) p

  -- the next attribute is met and the walk goes on, or it is at fault, or its meeting is, or there is none
  module _ (s : S) {rest after : List ℕ} {x : Result NlAttr AttributeFault} (i : all ≡ through met s rest) (n : Next attribute_of attribute_step rest (Some x) after) where
    pub visit_more : (s' : S) {a : NlAttr} {r : Result (Unit {0}) AttributeFault} {u : Unit {0}} → x ≡ Ok a → met s (attribute_of a) ≡ told r s' → r ≡ Ok u → all ≡ through met s' after
    visit_more s' {a} e p q = met_one s rest after (attribute_of a) (Ok s') i (came n a e) (p ∙ ap (λ y. told y s') q)

    pub visit_fault : (s' : S) {a : NlAttr} {r : Result (Unit {0}) AttributeFault} {f : AttributeFault} → x ≡ Ok a → met s (attribute_of a) ≡ told r s' → r ≡ Err f → all ≡ Err f
    visit_fault s' {a} {r} {f} e p q = met_one s rest after (attribute_of a) (Err f) i (came n a e) (p ∙ ap (λ y. told y s') q)

    pub visit_broken : {f : AttributeFault} → x ≡ Err f → all ≡ Err f
    visit_broken {f} e = here s rest (fault f) i (failed n f e)

  pub visit_end : (s : S) (rest : List ℕ) → all ≡ through met s rest → attribute_step rest ≡ end → all ≡ Ok s
  visit_end s rest i e = here s rest end i e
