-- The lowest free handle. Assumes nothing.
use Rattle.std.proofs.Common.{◌≡◌, ℕ, zero, suc, ◌+◌, ◌-◌, ◌<◌, ◌≤◌, Bool, true, false, cond, not, ◌||◌, ◌⊎◌, List, [], ◌∷◌, length, Some, find, sym, refl, ap, ◌∙◌, ⊎_elim, arith}
use Rattle.std.specs.List.{range_with_len, prefix_len}
use Rattle.std.specs.Option.{unwrap_or}
use Rattle.std.proofs.lemmas.List.FromFn.{length-range_with_len, get_or-range_with_len}
use Rattle.std.proofs.lemmas.List.Sums.{prefix_len-le-length, prefix_len_passes, prefix_len_stops}
use Rattle.requests.specs.Asks.{Key}
use Rattle.hosts.specs.Meaning.{Filter}
use Rattle.hosts.specs.Rules.{same_key, without}
use Rattle.filters.specs.Keys.{taken, with_handle, lowest_free}
use Rattle.keyed.proofs.Keyed.{same_key_lem, clash, either}

-- the first that does not pass, or the one behind the last, is as far on as the passing ones are many
pub searched : (p : ℕ → Bool) (a n d : ℕ) → a + n ≡ d → unwrap_or (find (λ h. not (p h)) (range_with_len a n)) d ≡ a + prefix_len p (range_with_len a n)
searched p a zero d e = omega arith
searched p a (suc n) d e = by (p a) (searched p (a + 1) n d (omega arith))
  where
    by : (b : Bool) → unwrap_or (find (λ h. not (p h)) (range_with_len (a + 1) n)) d ≡ a + 1 + prefix_len p (range_with_len (a + 1) n) →
        unwrap_or (cond (not b) (Some a) (find (λ h. not (p h)) (range_with_len (a + 1) n))) d ≡ a + cond b (1 + prefix_len p (range_with_len (a + 1) n)) 0
    by true i = omega (arith, i)
    by false i = omega arith

-- one filter fewer, and all other keys are still taken
no_more : (a : Key) (fs : List Filter) → length (without a fs) ≤ length fs
no_more a [] = omega arith
no_more a (f ∷ fs) = by (same_key a f.key) (no_more a fs)
  where
    by : (b : Bool) → length (without a fs) ≤ length fs → length (cond (not b) (f ∷ without a fs) (without a fs)) ≤ suc (length fs)
    by true h = omega arith
    by false h = omega arith

fewer : (a : Key) (fs : List Filter) → taken a fs ≡ true → length (without a fs) < length fs
fewer a [] t = clash false t refl
fewer a (f ∷ fs) t = by (same_key a f.key) t (fewer a fs)
  where
    by : (b : Bool) → (b || taken a fs) ≡ true → (taken a fs ≡ true → length (without a fs) < length fs) → length (cond (not b) (f ∷ without a fs) (without a fs)) < suc (length fs)
    by true t rest = omega (arith, no_more a fs)
    by false t rest = omega (arith, rest t)

still : (a b : Key) (fs : List Filter) → (a ≡ b → ⊥) → taken b fs ≡ true → taken b (without a fs) ≡ true
still a b [] n t = t
still a b (f ∷ fs) n t = by (same_key a f.key) refl (same_key b f.key) refl t (still a b fs n)
  where
    by : (x : Bool) → same_key a f.key ≡ x → (y : Bool) → same_key b f.key ≡ y → (y || taken b fs) ≡ true → (taken b fs ≡ true → taken b (without a fs) ≡ true) →
        taken b (cond (not x) (f ∷ without a fs) (without a fs)) ≡ true
    by true p true q t rest = absurd (n (same_key_lem a f.key p ∙ sym (same_key_lem b f.key q)))
    by true p false q t rest = rest t
    by false p true q t rest = ap (λ (z : Bool). z || taken b (without a fs)) q
    by false p false q t rest = ap (λ (z : Bool). z || taken b (without a fs)) q ∙ rest t

-- as many handles are taken as there are filters, at most
crowded : (k : Key) (n : ℕ) (fs : List Filter) → ((h : ℕ) → 1 ≤ h → h ≤ n → taken (with_handle k h) fs ≡ true) → n ≤ length fs
crowded k zero fs all = omega arith
crowded k (suc n) fs all =
    let a = with_handle k (suc n) in
    let less = fewer a fs (all (suc n) (omega arith) (omega arith)) in
    let rest = crowded k n (without a fs)
    (λ h o l. still a (with_handle k h) fs (λ e. let z : suc n ≡ h = ap (λ (x : Key). x.handle) e in omega arith) (all h o (omega arith))) in
    omega arith

up_to : (h n : ℕ) → h ≤ n + 1 → (h ≤ n) ⊎ (h ≡ n + 1)
up_to h n l = grind arith

module _ (k : Key) (fs : List Filter) (short : length fs ≤ 32) where
  abbrev p : ℕ → Bool
  p h = taken (with_handle k h) fs

  abbrev n : ℕ
  n = prefix_len p (range_with_len 1 32)

  split : (m : ℕ) → m ≤ length (range_with_len 1 32) → (m < 32) ⊎ (m ≡ 32)
  split m l = let e = length-range_with_len 1 32 in grind arith

  within : n < 32 → p (1 + n) ≡ false
  within l = sym (ap p (get_or-range_with_len 1 32 n 0 l)) ∙ prefix_len_stops p (range_with_len 1 32) 0 (omega (arith, length-range_with_len 1 32))

  below : n ≡ 32 → (h : ℕ) → 1 ≤ h → h ≤ 32 → p h ≡ true
  below e h o l =
      let m : 1 + (h - 1) ≡ h = omega arith in
      sym (ap p (get_or-range_with_len 1 32 (h - 1) 0 (omega arith) ∙ m)) ∙ prefix_len_passes p (range_with_len 1 32) (h - 1) 0 (omega arith)

  past : n ≡ 32 → p (1 + n) ≡ false
  past e = either (p (1 + n)) (λ t.
      let c = crowded k 33 fs (λ h o l. ⊎_elim (λ (s : h ≤ 32). below e h o s) (λ (s : h ≡ 32 + 1). let q : h ≡ 1 + n = omega arith in ap p q ∙ t) (up_to h 32 (omega arith))) in
      omega arith)

  pub lowest_free_lem : taken (with_handle k (lowest_free k fs)) fs ≡ false
  lowest_free_lem = ⊎_elim within past (split n (prefix_len-le-length p (range_with_len 1 32)))

  pub all_lower : (h : ℕ) → 1 ≤ h → h < lowest_free k fs → taken (with_handle k h) fs ≡ true
  all_lower h o l =
      let m : 1 + (h - 1) ≡ h = omega arith in
      sym (ap p (get_or-range_with_len 1 32 (h - 1) 0 (omega (arith, prefix_len-le-length p (range_with_len 1 32), length-range_with_len 1 32)) ∙ m)) ∙ prefix_len_passes p (range_with_len 1 32) (h - 1) 0 (omega arith)

-- the same of a number that is the lowest
pub free_at : (k : Key) (fs : List Filter) (n : ℕ) → length fs ≤ 32 → n ≡ lowest_free k fs → taken (with_handle k n) fs ≡ false
free_at k fs n s e = ap (λ (h : ℕ). taken (with_handle k h) fs) e ∙ lowest_free_lem k fs s

pub lower_at : (k : Key) (fs : List Filter) (n : ℕ) → length fs ≤ 32 → n ≡ lowest_free k fs → (h : ℕ) → 1 ≤ h → h < n → taken (with_handle k h) fs ≡ true
lower_at k fs n s e h o l = all_lower k fs s h o (omega arith)
