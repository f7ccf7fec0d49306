-- The first item of an iterator for which a closure has an answer. Assumes nothing.
use Rattle.std.proofs.Common.{◌≡◌, ℕ, suc, ◌+◌, ◌<◌, List, [], ◌∷◌, Some, None, Option, IfSome, MatchOption, IsTrue, slice_get, sym, ap, ◌∙◌, subst}
use denote.Param.Members.{Mut, Called}
use Rattle.std.specs.Iterator.{Yields, FindsMapped}
use Rattle.std.specs.Iterator.Runs.{Run, YieldsRun, SomeRun, AllItemsGive, IsFirstToGive}
use Rattle.std.specs.List.{FoldsTo}

abbrev pub onto : {Y L : Type 0} → (Y → L → L) → Option Y → L → L
onto add None l = l
onto add (Some y) l = add y l

-- what is left at a state is nothing at the end, and before that what the closure answers to the next item, if it answers, onto what is left behind it
module _ {S X Y L F : Type 0} (Steps : S → Option X → S → Type 0) (left : S → L) (nil : L) (add : Y → L → L)
    (ended : (s t : S) → Steps s None t → (left s ≡ nil) × (left t ≡ nil))
    (g : Mut F (X × Unit {0}) (Option Y))
    (kept : (f : F) (x : X) (r : Option Y) (q : F) → Called g f (x, tt) r q → q ≡ f)
    (handed : (s t : S) (f : F) (x : X) (r : Option Y) (q : F) → Steps s (Some x) t → Called g f (x, tt) r q → left s ≡ onto add r (left t)) where
  passed : (xs : List X) (s t : S) (f q : F) → Yields Steps s xs t → FoldsTo (λ p x h. Called g p (x, tt) None h) f xs q → left s ≡ left t
  passed [] s t f q y z = ap left y
  passed (x ∷ xs) s t f q y z = handed s y.0 f x None z.0 y.1 z.1 ∙ passed xs y.0 t z.0 q y.2 z.2

  none_given : (xs : List X) (s t : S) (f : F) → Yields Steps s xs t → ((k : ℕ) → IfSome (slice_get xs k) (λ x. Called g f (x, tt) None f)) → left s ≡ left t
  none_given [] s t f y z = ap left y
  none_given (x ∷ xs) s t f y z = handed s y.0 f x None f y.1 (z 0) ∙ none_given xs y.0 t f y.2 (λ k. z (suc k))

  none_in : (p : Run Steps) (f : F) → IsTrue p.whole → AllItemsGive p g f None → left p.from ≡ nil
  unfolding YieldsRun
  none_in p f w a =
      let y = p.gave.0 in
      let each = a (λ x r q k. kept f x.0 r q k) in
      let P : Option X → Type 0 = λ o. IfSome o (λ x. Called g f (x, tt) None f) in
      let e = y.2 w in
      none_given p.items p.from y.0 f y.1 (λ k. subst P (p.gave.1 k) (each k)) ∙ (ended y.0 e.0 e.1).0

  pub found : (s u : S) (f : F) (r : Option Y) → FindsMapped Steps g s f r u →
      SomeRun Steps s (λ p. MatchOption r (IsTrue p.whole × AllItemsGive p g f None) (λ y. (i : ℕ) × (i < p.len) × (p.len ≡ i + 1) × IsFirstToGive p g f (Some y) None i)) →
      MatchOption r ((left s ≡ nil) × (left u ≡ nil)) (λ y. left s ≡ add y (left u))
  found s u f r (xs, None, q, (t, y, n), z, e) k =
      let P : Option Y → Type 0 = λ o. MatchOption o ((left s ≡ nil) × (left u ≡ nil)) (λ v. left s ≡ add v (left u)) in
      let d = ended t u n in
      subst P (sym e) (passed xs s t f q y z ∙ d.0, d.1)
  found s u f None (xs, Some x, q, (t, y, n), z, (h, e)) (p, i, w) =
      let same = passed xs s t f q y z ∙ handed t u q x None h n e in
      let none = ap left (sym i) ∙ none_in p f w.0 w.1 in
      (none, sym same ∙ none)
  found s u f (Some v) (xs, Some x, q, (t, y, n), z, (h, e)) k = passed xs s t f q y z ∙ handed t u q x (Some v) h n e
