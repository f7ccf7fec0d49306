-- The texts of a row, one by one. Assumes nothing.
use Rattle.std.proofs.Common.{◌≡◌, ℕ, ◌+◌, ◌<◌, List, [], ◌∷◌, Some, None, Ok, Err, Option, Result, MatchOption, IsTrue, option_map, sym, refl, ap, ◌∙◌, arith}
use denote.Param.Members.{Mut, Called}
use Rattle.std.specs.Iterator.{FindsMapped}
use Rattle.std.specs.Iterator.Runs.{SomeRun, AllItemsGive, IsFirstToGive}
use Rattle.std.specs.Result.{result_ok}
use Rattle.reader.specs.declared.row.NlAttrs.{NlAttrs}
use Rattle.std.specs.Borrow.{Bor}
use Rattle.reader.specs.Walks.{Step, end, fault, item, on_step, beyond, Next}
use Rattle.records.specs.Layouts.{Attribute}
use Rattle.reader.specs.Rows.{attribute_step, attributes, attribute_of}
use Rattle.reader.specs.declared.attribute.NlAttr.{NlAttr}
use Rattle.reader.specs.declared.fault.AttributeFault.{AttributeFault}
use Rattle.reader.proofs.Attributing.{attributes_step}
use Rattle.reader.proofs.Firsts.{onto, found as first}
use Rattle.reader.specs.Names.{text_in, on_text, texts_in, texts_of}

pub texts_step : (b : List ℕ) (s : Step Attribute AttributeFault) → attribute_step b ≡ s → texts_of b ≡ texts_in (on_step attributes s).found
texts_step b s e = ap (λ r. texts_in r.found) (attributes_step b ∙ ap (on_step attributes) e)

pub texts_item : (b : List ℕ) (a : Attribute) (r : List ℕ) (t : Result (List ℕ) AttributeFault) → attribute_step b ≡ item a r → t ≡ text_in a → texts_of b ≡ on_text t (texts_of r)
texts_item b a r t e p = texts_step b (item a r) e ∙ ap (λ x. on_text x (texts_of r)) (sym p)

none_left : texts_of [] ≡ []
none_left = texts_step [] end refl

-- the text that an item is, if it is one
abbrev pub item_text : Result NlAttr AttributeFault → Option (List ℕ)
item_text (Ok a) = result_ok (text_in (attribute_of a))
item_text (Err e) = None

abbrev listed : Option (Bor (List ℕ)) → List (List ℕ) → List (List ℕ)
listed = onto (λ t l. t.now ∷ l)

abbrev pub AttrsStep : NlAttrs → Option (Result NlAttr AttributeFault) → NlAttrs → Type 0
AttrsStep s r t = Next attribute_of attribute_step s.rest.now r t.rest.now

abbrev left : NlAttrs → List (List ℕ)
left s = texts_of s.rest.now

on_listed : (r : Option (Bor (List ℕ))) (t : Result (List ℕ) AttributeFault) (l : List (List ℕ)) → option_map (λ x. x.now) r ≡ result_ok t → on_text t l ≡ listed r l
on_listed None (Ok t) l e = let z : ◌≡◌ {A = ℕ} 0 1 = cc in absurd (omega arith)
on_listed None (Err f) l e = refl
on_listed (Some x) (Ok t) l e = let q : x.now ≡ t = cc in ap (λ (y : List ℕ). y ∷ l) (sym q)
on_listed (Some x) (Err f) l e = let z : ◌≡◌ {A = ℕ} 0 1 = cc in absurd (omega arith)

-- an item and its text, if it is one; a fault is none, and has none behind it
handed : (s t : NlAttrs) (x : Result NlAttr AttributeFault) (r : Option (Bor (List ℕ))) → AttrsStep s (Some x) t → option_map (λ y. y.now) r ≡ item_text x → left s ≡ listed r (left t)
handed s t (Ok a) r n e = texts_item s.rest.now (attribute_of a) t.rest.now (text_in (attribute_of a)) n.step refl ∙ on_listed r (text_in (attribute_of a)) (left t) e
handed s t (Err f) None n e = texts_step s.rest.now (fault f) n.step ∙ sym (ap texts_of (n.left ∙ ap (beyond s.rest.now) n.step) ∙ none_left)
handed s t (Err f) (Some x) n e = let z : ◌≡◌ {A = ℕ} 0 1 = cc in absurd (omega arith)

ended : (s t : NlAttrs) → AttrsStep s None t → (left s ≡ []) × (left t ≡ [])
ended s t n = let e = texts_step s.rest.now end n.step in (e, ap texts_of (n.left ∙ ap (beyond s.rest.now) n.step) ∙ e)

-- the first text, and what is left behind it
module _ {F : Type 0} (g : Mut F (Result NlAttr AttributeFault × Unit {0}) (Option (Bor (List ℕ))))
    (calls : (f : F) (x : Result NlAttr AttributeFault) (r : Option (Bor (List ℕ))) (q : F) → Called g f (x, tt) r q → (q ≡ f) × (option_map (λ y. y.now) r ≡ item_text x)) where
  pub found : (s u : NlAttrs) (f : F) (r : Option (Bor (List ℕ))) → FindsMapped AttrsStep g s f r u →
      SomeRun AttrsStep s (λ p. MatchOption r (IsTrue p.whole × AllItemsGive p g f None) (λ y. (i : ℕ) × (i < p.len) × (p.len ≡ i + 1) × IsFirstToGive p g f (Some y) None i)) →
      MatchOption r ((left s ≡ []) × (left u ≡ [])) (λ x. left s ≡ x.now ∷ left u)
  found = first AttrsStep left [] (λ t l. t.now ∷ l) ended g (λ f x r q k. (calls f x r q k).0) (λ s t f x r q n k. handed s t x r n (calls f x r q k).1)
