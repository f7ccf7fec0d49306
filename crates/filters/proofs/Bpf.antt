-- The bpf filter of a key. Assumes nothing.
use Rattle.std.proofs.Common.{Bor, ◌≡◌, Bool, true, false, cond, not, ◌&&◌, ◌||◌, List, [], ◌∷◌, Some, None, Option, map, refl, ap, ◌∙◌, arith}
use Rattle.std.specs.List.{find}
use Rattle.std.specs.Option.{is_some, option_map}
use Rattle.std.specs.Str.{bytes_eq}
use Rattle.requests.specs.Asks.{Key}
use Rattle.hosts.specs.Meaning.{Filter, bpf}
use Rattle.hosts.specs.Rules.{same_key}
use Rattle.keyed.specs.Rows.{found}
use Rattle.keyed.proofs.Keyed.{or_left, or_right, and_right, alone}
use Rattle.filters.specs.Keys.{taken, distinct, is_bpf, only_bpf, bpf_of}

abbrev pub key : Filter → Key
key f = f.key

untaken_bpf : (k : Key) (fs : List Filter) → taken k fs ≡ false → is_bpf k fs ≡ false
untaken_bpf k [] e = refl
untaken_bpf k (f ∷ fs) e =
    let a = or_left (same_key k f.key) _ e in
    let b = untaken_bpf k fs (or_right (same_key k f.key) _ e) in
    cc

-- whether there is one, and which
pub is_bpf_of : (k : Key) (fs : List Filter) → distinct fs ≡ true → is_some (bpf_of k fs) ≡ is_bpf k fs
is_bpf_of k [] d = refl
is_bpf_of k (f ∷ fs) d =
    step (same_key k f.key) (bytes_eq f.kind bpf) (λ p. untaken_bpf k fs (alone key k f fs d p)) (is_bpf_of k fs (and_right (not (taken f.key fs)) _ d))
  where
    step : (a b : Bool) → (a ≡ true → is_bpf k fs ≡ false) → is_some (bpf_of k fs) ≡ is_bpf k fs →
        is_some (only_bpf (cond a (Some f) (found key k fs))) ≡ ((a && bytes_eq f.kind bpf) || is_bpf k fs)
    step true b h i = kind (bytes_eq f.kind bpf) (h refl)
      where
        kind : (c : Bool) → is_bpf k fs ≡ false → is_some (cond c (Some f) None) ≡ (c || is_bpf k fs)
        kind true h = refl
        kind false h = grind arith
    step false b h i = i

pub bpf_there : (o : Option Filter) (f : Filter) → only_bpf o ≡ Some f → (o ≡ Some f) × (bytes_eq f.kind bpf ≡ true)
bpf_there None f e = grind arith
bpf_there (Some g) f e = step (bytes_eq g.kind bpf) refl e
  where
    step : (b : Bool) → bytes_eq g.kind bpf ≡ b → cond b (Some g) None ≡ Some f → (Some g ≡ Some f) × (bytes_eq f.kind bpf ≡ true)
    step true h n = let e : f ≡ g = grind arith in (n, ap (λ (x : Filter). bytes_eq x.kind bpf) e ∙ h)
    step false h n = grind arith

-- one that is lent, by what it stands for
pub lent_mapped : {X Y : Type 0} (f : X → Y) (o : Option (Bor X)) → option_map (λ x. f x.now) o ≡ option_map f (option_map (λ x. x.now) o)
lent_mapped f None = refl
lent_mapped f (Some x) = refl

-- the first that passes, by what it stands for
pub found_mapped : {X Y : Type 0} (f : X → Y) (p : Y → Bool) (xs : List X) → option_map f (find (λ x. p (f x)) xs) ≡ find p (map f xs)
found_mapped f p [] = refl
found_mapped f p (x ∷ xs) = step (p (f x)) (found_mapped f p xs)
  where
    step : (b : Bool) → option_map f (find (λ x. p (f x)) xs) ≡ find p (map f xs) →
        option_map f (cond b (Some x) (find (λ x. p (f x)) xs)) ≡ cond b (Some (f x)) (find p (map f xs))
    step true h = refl
    step false h = h

pub mapped_some : {X Y : Type 0} (f : X → Y) (o : Option X) → is_some o ≡ is_some (option_map f o)
mapped_some f None = refl
mapped_some f (Some x) = refl

pub told_apart : {X : Type 0} (b : Bool) (x y : X) → Some x ≡ cond b (Some y) None → x ≡ y
told_apart true x y e = grind arith
told_apart false x y e = grind arith
