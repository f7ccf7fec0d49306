-- A filter that is given. Assumes nothing.
use Rattle.std.proofs.Common.{◌≡◌, ℕ, Bool, true, false, cond, List, ◌++◌, Some, None, Err, Result, sym, refl, ap, ◌∙◌, arith}
use Rattle.requests.specs.Asks.{Key, key_of}
use Rattle.requests.specs.declared.request.Key.{Key as CodeKey}
use Rattle.hosts.specs.Meaning.{Filter}
use Rattle.filters.specs.Fitting.{is_filter, standing, filter_with}
use Rattle.filters.specs.Keys.{admitted, added}
use Rattle.filters.specs.declared.refusal.Refusal.{Refusal}
use Rattle.filters.specs.declared.refusal.Refusal.TheVariants.{Invalid}
use Rattle.bench.specs.Wholeness.{all_datagrams}
use Rattle.bench.specs.Serving.{granted}
use Rattle.bench.specs.Calls.{state, as_key, admittance, given, with_given, mapped_ok}
use Rattle.bench.specs.Paging.{whole_append}

pub whole_either : (b : Bool) (ws ds : List (List ℕ)) → all_datagrams ws ≡ true → all_datagrams ds ≡ true → all_datagrams (cond b (ws ++ ds) ws) ≡ true
whole_either true ws ds p q = whole_append ws ds p q
whole_either false ws ds p q = p

pub made : (b : Bool) (f g : Filter) → Some g ≡ cond b (Some f) None → (b ≡ true) × (g ≡ f)
made true f g e = (refl, cc)
made false f g e = let z : ◌≡◌ {A = ℕ} 0 1 = cc in absurd (omega arith)

module _ (w : Filter) (g : Key) (fs : List Filter) (f : Filter) (r : Result (Unit {0}) Refusal) (e : g ≡ granted w.key fs)
    (m : Some f ≡ standing (filter_with g w.kind w.name)) (a : r ≡ admitted f.key fs) where
  is : (is_filter (filter_with g w.kind w.name) ≡ true) × (f ≡ filter_with g w.kind w.name)
  is = made (is_filter (filter_with g w.kind w.name)) (filter_with g w.kind w.name) f m

  admits : r ≡ admittance (filter_with g w.kind w.name) fs
  admits = a ∙ ap (λ (x : Filter). admitted x.key fs) is.1 ∙ sym (ap (λ (b : Bool). cond b (admitted g fs) (Err Invalid)) is.0)

  pub given_key : as_key g r ≡ given w fs
  given_key = ap (as_key g) admits ∙ ap (λ (x : Key). as_key x (admittance (filter_with x w.kind w.name) fs)) e

  pub given_filters : added r f fs ≡ with_given w fs
  given_filters =
      ap (λ (x : Filter). added r x fs) is.1 ∙ ap (λ (x : Result (Unit {0}) Refusal). added x (filter_with g w.kind w.name) fs) admits
      ∙ ap (λ (x : Key). added (admittance (filter_with x w.kind w.name) fs) (filter_with x w.kind w.name) fs) e

-- the state then, and the answer as the code has it
pub given_state : (ws : List (List ℕ)) (fs gs hs : List Filter) → fs ≡ gs → gs ≡ hs → state fs ws ≡ state hs ws
given_state ws fs gs hs p q = ap (λ (x : List Filter). state x ws) (p ∙ q)

pub refused_key : (w : Filter) (g : Key) (fs : List Filter) (r : Result (Unit {0}) Refusal) (s d : Refusal) (o : Result CodeKey Refusal) → as_key g r ≡ given w fs →
    r ≡ Err s → o ≡ Err d → d ≡ s → mapped_ok key_of o ≡ given w fs
refused_key w g fs r s d o e p q z = ap (mapped_ok key_of) q ∙ ap Err z ∙ sym (ap (as_key g) p) ∙ e
