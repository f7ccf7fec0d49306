-- A reply that has room, and the effect behind it; one that has none. Assumes nothing.
use Rattle.std.proofs.Common.{◌≡◌, ℕ, Bool, true, false, cond, List, [], ◌∷◌, ◌++◌, ℤ, pos, Some, Ok, Err, Result, sym, refl, ap, ◌∙◌, arith}
use Rattle.requests.specs.Asks.{Key}
use Rattle.hosts.specs.Events.{Answer}
use Rattle.hosts.specs.Meaning.{Filter}
use Rattle.filters.specs.Fitting.{is_filter, standing}
use Rattle.filters.specs.Keys.{admitted, added}
use Rattle.filters.specs.declared.refusal.Refusal.{Refusal}
use Rattle.bench.specs.Serving.{Outcome, echoed, granted, named, attaching}
use Rattle.bench.specs.Calls.{State, state, fits, Replied}
use Rattle.bench.proofs.Giving.{made}

-- o has the reply of p, and perhaps other filters
module _ (o p : Outcome) (s t : State) (same : o.reply ≡ p.reply) where
  abbrev room : Outcome → Bool
  room x = fits s.waiting x.reply

  fits_same : room o ≡ room p
  fits_same = ap (λ (ds : List (List ℕ)). fits s.waiting ds) same

  pub unaltered : (r : Answer) (e : ℤ) → r ≡ Err e → Replied o s r t → Replied p s r t
  unaltered r e q a = by (room o) refl
    where
      by : (b : Bool) → room o ≡ b → Replied p s r t
      by true w = let z : ◌≡◌ {A = ℕ} 0 1 = cc in absurd (omega arith)
      by false w = (
        a.0 ∙ ap (λ (x : Bool). cond {A = Answer} x (Ok tt) (Err (pos 105))) fits_same,
        a.1 ∙ ap (λ (x : Bool). cond x (state o.filters (s.waiting ++ o.reply)) s) w
            ∙ sym (ap (λ (x : Bool). cond x (state p.filters (s.waiting ++ p.reply)) s) (sym fits_same ∙ w)),
      )

  pub kept : Replied o s (Ok tt) t → t.filters ≡ o.filters
  kept a = by (room o) refl
    where
      by : (b : Bool) → room o ≡ b → t.filters ≡ o.filters
      by true w = ap (λ (x : State). x.filters) (a.1 ∙ ap (λ (x : Bool). cond x (state o.filters (s.waiting ++ o.reply)) s) w)
      by false w = let z : ◌≡◌ {A = ℕ} 0 1 = cc in absurd (omega arith)

  pub altered : (fs : List Filter) → fs ≡ p.filters → Replied o s (Ok tt) t → Replied p s (Ok tt) (state fs t.waiting)
  altered fs f a = by (room o) refl
    where
      by : (b : Bool) → room o ≡ b → Replied p s (Ok tt) (state fs t.waiting)
      by true w =
          let ws : t.waiting ≡ s.waiting ++ p.reply =
          ap (λ (x : State). x.waiting) (a.1 ∙ ap (λ (x : Bool). cond x (state o.filters (s.waiting ++ o.reply)) s) w) ∙ ap (λ (x : List (List ℕ)). s.waiting ++ x) same in (
            a.0 ∙ ap (λ (x : Bool). cond {A = Answer} x (Ok tt) (Err (pos 105))) fits_same,
            ap (λ (x : List Filter). state x t.waiting) f ∙ ap (state p.filters) ws
                ∙ sym (ap (λ (x : Bool). cond x (state p.filters (s.waiting ++ p.reply)) s) (sym fits_same ∙ w)),
          )
      by false w = let z : ◌≡◌ {A = ℕ} 0 1 = cc in absurd (omega arith)

-- what an attach that is admitted comes to
module _ (k g : Key) (name q : List ℕ) (fs : List Filter) (f : Filter) (e : g ≡ granted k fs)
    (m : Some f ≡ standing (named g name)) (a : Ok tt ≡ admitted g fs) where
  is : f ≡ named g name
  is = (made (is_filter (named g name)) (named g name) f m).1

  pub comes_to : attaching (admitted (granted k fs) fs) (named (granted k fs) name) q fs ≡ echoed 0x060D f q (fs ++ (f ∷ []))
  comes_to =
      ap (λ (x : Key). attaching (admitted x fs) (named x name) q fs) (sym e) ∙ ap (λ (x : Result (Unit {0}) Refusal). attaching x (named g name) q fs) (sym a)
      ∙ ap (λ (x : Filter). echoed 0x060D x q (fs ++ (x ∷ []))) (sym is)

  pub adds : (gs hs : List Filter) (r : Result (Unit {0}) Refusal) → gs ≡ fs → r ≡ admitted f.key gs → hs ≡ added r f gs → hs ≡ fs ++ (f ∷ [])
  adds gs hs r w b c =
      let ok : r ≡ Ok tt = b ∙ ap (λ (x : List Filter). admitted f.key x) w ∙ ap (λ (x : Filter). admitted x.key fs) is ∙ sym a in
      c ∙ ap (λ (x : Result (Unit {0}) Refusal). added x f gs) ok ∙ ap (λ (x : List Filter). x ++ (f ∷ [])) w
