-- Reading piece by piece, over any step that shortens. Assumes nothing.
use Rattle.std.proofs.Common.{◌≡◌, ℕ, zero, suc, ◌<◌, ◌≤◌, List, [], ◌∷◌, length, Some, None, Ok, Err, Option, Result, sym, refl, ap, ◌∙◌, subst, arith}
use Rattle.std.specs.Iterator.{MakesProgress, at_most}
use Rattle.records.specs.Layouts.{Chain, none, more}
use Rattle.reader.specs.Walks.{Upto, here, on, Step, end, fault, item, Stop, clean, broken, Reading, whole, after, on_step, read_by, reading, Reads, Stops, seen, beyond, Next}

-- what `next` said, at a piece and at a fault
module _ {R X F : Type 0} {show : R → X} {front : List ℕ → Step X F} {b c : List ℕ} {x : Result R F} (n : Next show front b (Some x) c) where
  pub came : (r : R) → x ≡ Ok r → front b ≡ item (show r) c
  came r e = n.step ∙ ap (λ (y : Result R F). seen show (Some y) c) e

  pub failed : (f : F) → x ≡ Err f → front b ≡ fault f
  failed f e = n.step ∙ ap (λ (y : Result R F). seen show (Some y) c) e

-- a fault is handed out last
fault_last : {X F : Type 0} (front : List ℕ → Step X F) → front [] ≡ end → (b c : List ℕ) (e : F) → front b ≡ fault e → c ≡ beyond b (front b) → length c < length b
fault_last {X} {F} front empty [] c e p q = let n : ◌≡◌ {A = Step X F} end (fault e) = sym empty ∙ p in let z : ◌≡◌ {A = ℕ} 0 1 = cc in absurd (omega arith)
fault_last front empty (x ∷ xs) c e p q = let k : c ≡ [] = q ∙ ap (beyond (x ∷ xs)) p in omega (arith, ap length k)

-- `next` comes nearer to the end with each piece, and with a fault
module _ {S R X F : Type 0} (left : S → List ℕ) {show : R → X} {front : List ℕ → Step X F} (empty : front [] ≡ end)
    (shorter : (b : List ℕ) (x : X) (r : List ℕ) → front b ≡ item x r → length r < length b) where
  pub nearer : (s t : S) (r : Option (Result R F)) → Next show front (left s) r (left t) → MakesProgress (λ _. Unit {0}) (λ (x : S). at_most (length (left x))) s r t
  nearer s t None n = record { on = λ _. tt; keeps = tt; rests = λ _. tt }
  nearer s t (Some (Ok x)) n = record { on = λ _. (tt, tt, shorter (left s) (show x) (left t) n.step); keeps = tt; rests = λ _. tt }
  nearer s t (Some (Err e)) n = record { on = λ _. (tt, tt, fault_last front empty (left s) (left t) e n.step n.left); keeps = tt; rests = λ _. tt }

module _ {X F : Type 0} where
  same_on : (f g : List ℕ → Reading X F) (s : Step X F) → ((x : X) (r : List ℕ) → s ≡ item x r → f r ≡ g r) → on_step f s ≡ on_step g s
  same_on f g end w = refl
  same_on f g (fault e) w = refl
  same_on f g (item x r) w = ap (after x) (w x r refl)

  not_cons : {A : Type 0} (x : X) (xs : List X) (s t : Stop F) → ◌≡◌ {A = Reading X F} record { found = x ∷ xs; stop = s } record { found = []; stop = t } → A
  not_cons x xs s t e = let p : ◌≡◌ {A = List X} (x ∷ xs) [] = ap (λ (r : Reading X F). r.found) e in let z : ◌≡◌ {A = ℕ} 0 1 = cc in absurd (omega arith)

  not_broken : {A : Type 0} (xs ys : List X) (e : F) → ◌≡◌ {A = Reading X F} record { found = xs; stop = broken e } record { found = ys; stop = clean } → A
  not_broken xs ys e q = let p : ◌≡◌ {A = Stop F} (broken e) clean = ap (λ (r : Reading X F). r.stop) q in let z : ◌≡◌ {A = ℕ} 0 1 = cc in absurd (omega arith)

  not_clean : {A : Type 0} (xs ys : List X) (e : F) → ◌≡◌ {A = Reading X F} record { found = xs; stop = clean } record { found = ys; stop = broken e } → A
  not_clean xs ys e q = let p : ◌≡◌ {A = Stop F} clean (broken e) = ap (λ (r : Reading X F). r.stop) q in let z : ◌≡◌ {A = ℕ} 0 1 = cc in absurd (omega arith)

  same_parts : (q : Reading X F) (xs : List X) (s : Stop F) → q.found ≡ xs → q.stop ≡ s → q ≡ record { found = xs; stop = s }
  same_parts q xs s e f = ap (λ (y : List X). record { found = y; stop = q.stop }) e ∙ ap (λ (y : Stop F). record { found = xs; stop = y }) f

  same_reading : (q : Reading X F) (xs : List X) → q.found ≡ xs → q.stop ≡ clean → q ≡ whole xs
  same_reading q xs e f = ap (λ (y : List X). record { found = y; stop = q.stop }) e ∙ ap (λ (y : Stop F). record { found = xs; stop = y }) f

module _ {X F : Type 0} (step : List ℕ → Step X F) (empty : step [] ≡ end)
    (shorter : (b : List ℕ) (x : X) (r : List ℕ) → step b ≡ item x r → length r < length b) where
  -- any number of steps that is enough gives the same
  fuel : (f g : ℕ) (b : List ℕ) → length b ≤ f → length b ≤ g → read_by step f b ≡ read_by step g b
  unfolding read_by
  fuel zero zero b p q = refl
  fuel zero (suc g) [] p q = sym (ap (on_step (read_by step g)) empty)
  fuel zero (suc g) (x ∷ xs) p q = absurd (omega arith)
  fuel (suc f) zero [] p q = ap (on_step (read_by step f)) empty
  fuel (suc f) zero (x ∷ xs) p q = absurd (omega arith)
  fuel (suc f) (suc g) b p q =
      same_on (read_by step f) (read_by step g) (step b)
      (λ x r e. let h = shorter b x r e in fuel f g r (omega arith) (omega arith))

  -- a reading is its first step, and then the rest
  pub reading_step : (b : List ℕ) → reading step b ≡ on_step (reading step) (step b)
  unfolding read_by reading
  reading_step [] = sym (ap (on_step (reading step)) empty)
  reading_step (y ∷ ys) =
      same_on (read_by step (length ys)) (reading step) (step (y ∷ ys))
      (λ x r e. let h = shorter (y ∷ ys) x r e in fuel (length ys) (length r) r (omega arith) (omega arith))

  module _ (One : List ℕ → X → List ℕ → Type 0) (at_end : (b : List ℕ) → step b ≡ end → b ≡ [])
      (there : (b : List ℕ) (x : X) (r : List ℕ) → One b x r → step b ≡ item x r)
      (back : (b : List ℕ) (x : X) (r : List ℕ) → step b ≡ item x r → One b x r) where
    laid_reads : (b : List ℕ) (xs : List X) → Chain One b xs → reading step b ≡ whole xs
    laid_reads b xs none = reading_step [] ∙ ap (on_step (reading step)) empty
    laid_reads b xs (more {r} {x} {xs = ys} o c) =
        reading_step b ∙ ap (on_step (reading step)) (there b x r o) ∙ ap (after x) (laid_reads r ys c)

    at_step : (b : List ℕ) (xs : List X) (s : Step X F) → step b ≡ s → on_step (reading step) s ≡ whole xs → Chain One b xs
    at_step b [] end p e = subst (λ (z : List ℕ). Chain One z []) (sym (at_end b p)) none
    at_step b (x ∷ xs) end p e = not_cons x xs clean clean (sym e)
    at_step b [] (fault f) p e = not_broken [] [] f e
    at_step b (x ∷ xs) (fault f) p e = not_broken [] (x ∷ xs) f e
    at_step b [] (item y r) p e = not_cons y _ _ _ e
    at_step b (x ∷ xs) (item y r) p e =
        let h = ap (λ (z : Reading X F). z.found) e in
        let s : (reading step r).stop ≡ clean = ap (λ (z : Reading X F). z.stop) e in
        let a : y ≡ x = cc in
        let t : (reading step r).found ≡ xs = cc in
        let w : reading step r ≡ whole xs = same_reading (reading step r) xs t s in
        more (back b x r (p ∙ ap (λ z. item z r) a)) (at_step r xs (step r) refl (sym (reading_step r) ∙ w))

    reads_laid : (b : List ℕ) (xs : List X) → reading step b ≡ whole xs → Chain One b xs
    reads_laid b xs e = at_step b xs (step b) refl (sym (reading_step b) ∙ e)

    pub reads : Reads step One
    reads b xs = (laid_reads b xs, reads_laid b xs)

    upto_reads : (b : List ℕ) (xs : List X) (f : F) (t : List ℕ) → Upto One b xs t → step t ≡ fault f → reading step b ≡ record { found = xs; stop = broken f }
    upto_reads b xs f t here e = reading_step b ∙ ap (on_step (reading step)) e
    upto_reads b xs f t (on {r} {x} {xs = ys} o c) e =
        reading_step b ∙ ap (on_step (reading step)) (there b x r o) ∙ ap (after x) (upto_reads r ys f t c e)

    at_fault : (b : List ℕ) (xs : List X) (f : F) (s : Step X F) → step b ≡ s → on_step (reading step) s ≡ record { found = xs; stop = broken f } →
        (t : List ℕ) × Upto One b xs t × (step t ≡ fault f)
    at_fault b [] f end p e = not_clean [] [] f e
    at_fault b (x ∷ xs) f end p e = not_clean [] (x ∷ xs) f e
    at_fault b [] f (fault g) p e = let q : ◌≡◌ {A = Stop F} (broken g) (broken f) = ap (λ (z : Reading X F). z.stop) e in let a : g ≡ f = cc in (b, here, p ∙ ap fault a)
    at_fault b (x ∷ xs) f (fault g) p e = not_cons x xs (broken f) (broken g) (sym e)
    at_fault b [] f (item y r) p e = not_cons y _ _ _ e
    at_fault b (x ∷ xs) f (item y r) p e =
        let h = ap (λ (z : Reading X F). z.found) e in
        let s : (reading step r).stop ≡ broken f = ap (λ (z : Reading X F). z.stop) e in
        let a : y ≡ x = cc in
        let t : (reading step r).found ≡ xs = cc in
        let w = same_parts (reading step r) xs (broken f) t s in
        let k = at_fault r xs f (step r) refl (sym (reading_step r) ∙ w) in
        (k.0, on (back b x r (p ∙ ap (λ z. item z r) a)) k.1, k.2)

    pub stops : Stops step One
    stops b xs f = ((λ k. upto_reads b xs f k.0 k.1 k.2), (λ e. at_fault b xs f (step b) refl (sym (reading_step b) ∙ e)))
