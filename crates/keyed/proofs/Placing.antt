-- The place of a key in a list. Assumes nothing.
use Rattle.std.proofs.Common.{◌≡◌, ℕ, suc, ◌+◌, Bool, true, false, cond, not, List, [], ◌∷◌, ◌++◌, map, length, get_or, take, drop, set, Some, None, Ok, Err, Option, nat_lt, slice_get, sym, refl, ap, ◌∙◌, arith}
use Rattle.std.specs.Option.{is_some, option_map}
use Rattle.std.specs.List.{prefix_len, remove}
use Rattle.std.proofs.lemmas.Option.{slice_get-map}
use Rattle.std.proofs.lemmas.List.{length-map, map-set, map-append, map_push, take-map, drop-map}
use Rattle.std.proofs.lemmas.List.Folds.{find_at}
use Rattle.requests.specs.Asks.{Key}
use Rattle.hosts.specs.Rules.{same_key}
use Rattle.keyed.specs.Keyed.{taken, distinct, before, without, altered}
use Rattle.keyed.specs.Rows.{place, found}
use Rattle.keyed.specs.declared.table.Refused.TheVariants.{Taken, Full}
use Rattle.keyed.proofs.Keyed.{or_left, or_right, same_key_lem, taken_within, first_has, first_set, first_removed, altered_same, distinct_altered, distinct_append}

-- where a test by place holds
is_there : (b t : Bool) (n : ℕ) → t ≡ b → is_some (cond b (Some n) None) ≡ t
is_there true t n e = sym e
is_there false t n e = sym e

there : (b t : Bool) (n i : ℕ) → t ≡ b → cond b (Some n) None ≡ Some i → (i ≡ n) × (t ≡ true)
there true t n i e s = (grind arith, e)
there false t n i e s = grind arith

nowhere : (b t : Bool) (n : ℕ) → t ≡ b → cond b (Some n) None ≡ None → t ≡ false
nowhere true t n e s = grind arith
nowhere false t n e s = e

module _ {X : Type 0} (key : X → Key) (k : Key) where
  pub placed_taken : (xs : List X) → is_some (place key k xs) ≡ taken key k xs
  placed_taken xs = is_there (nat_lt (before key k xs) (length xs)) (taken key k xs) (before key k xs) (taken_within key k xs)

  pub placed : (xs : List X) (i : ℕ) → place key k xs ≡ Some i → (i ≡ before key k xs) × (taken key k xs ≡ true)
  placed xs i e = there (nat_lt (before key k xs) (length xs)) (taken key k xs) (before key k xs) i (taken_within key k xs) e

  pub unplaced : (xs : List X) → place key k xs ≡ None → taken key k xs ≡ false
  unplaced xs e = nowhere (nat_lt (before key k xs) (length xs)) (taken key k xs) (before key k xs) (taken_within key k xs) e

  pub not_found : (xs : List X) → taken key k xs ≡ false → found key k xs ≡ None
  not_found [] e = refl
  not_found (x ∷ xs) e =
      ap (λ (b : Bool). cond b (Some x) (found key k xs)) (or_left (same_key k (key x)) _ e) ∙ not_found xs (or_right (same_key k (key x)) _ e)

-- rows, each by what it stands for
module _ {R X : Type 0} (f : R → X) where
  prefix_mapped : (p : X → Bool) (rs : List R) → prefix_len p (map f rs) ≡ prefix_len (λ r. p (f r)) rs
  prefix_mapped p [] = refl
  prefix_mapped p (r ∷ rs) = ap (λ (n : ℕ). cond (p (f r)) (1 + n) 0) (prefix_mapped p rs)

  map_removed : (rs : List R) (i : ℕ) → map f (remove rs i) ≡ remove (map f rs) i
  map_removed rs i = map-append f (take i rs) (drop (suc i) rs) ∙ sym (cc (take-map f i rs, drop-map f (suc i) rs))

  pub distinct_pushed : (key : X → Key) (rs : List R) (r : R) (b : Bool) → distinct key (map f rs) ≡ true → taken key (key (f r)) (map f rs) ≡ false →
      distinct key (map f (cond b (rs ++ r ∷ []) rs)) ≡ true
  distinct_pushed key rs r true d n = ap (λ (xs : List X). distinct key xs) (map_push f rs r) ∙ distinct_append key (map f rs) (f r) d n
  distinct_pushed key rs r false d n = d

  module _ (key : X → Key) (k : Key) (rs : List R) where
    place_mapped : place (λ r. key (f r)) k rs ≡ place key k (map f rs)
    place_mapped =
        let e = prefix_mapped (λ x. not (same_key k (key x))) rs in
        let l = length-map rs f in
        cc

    pub taken_mapped : is_some (place (λ r. key (f r)) k rs) ≡ taken key k (map f rs)
    taken_mapped = ap (λ (o : Option ℕ). is_some o) place_mapped ∙ placed_taken key k (map f rs)

    pub unfound_mapped : place (λ r. key (f r)) k rs ≡ None → option_map f None ≡ found key k (map f rs)
    unfound_mapped e = sym (not_found key k (map f rs) (unplaced key k (map f rs) (sym place_mapped ∙ e)))

    pub untaken_mapped : place (λ r. key (f r)) k rs ≡ None → taken key k (map f rs) ≡ false
    untaken_mapped e = unplaced key k (map f rs) (sym place_mapped ∙ e)

    module _ (i : ℕ) (e : place (λ r. key (f r)) k rs ≡ Some i) where
      here : (i ≡ before key k (map f rs)) × (taken key k (map f rs) ≡ true)
      here = placed key k (map f rs) i (sym place_mapped ∙ e)

      pub found_mapped : option_map f (slice_get rs i) ≡ found key k (map f rs)
      found_mapped = sym (slice_get-map f rs i) ∙ ap (slice_get (map f rs)) here.0 ∙ sym (find_at (λ x. same_key k (key x)) (map f rs))

      module _ (d : distinct key (map f rs) ≡ true) where
        pub removed_mapped : map f (remove rs i) ≡ without key k (map f rs)
        removed_mapped = map_removed rs i ∙ ap (remove (map f rs)) here.0 ∙ first_removed key k (map f rs) d here.1

        pub replaced_mapped : (row : R) → map f (set rs i row) ≡ map (altered key k (λ _. f row)) (map f rs)
        replaced_mapped row =
            let xs = map f rs in
            let x = f row in
            let a = altered_same key k (λ (_ : X). x) (get_or xs (before key k xs) x) (first_has key k x xs here.1) in
            map-set f rs i row ∙ ap (λ (j : ℕ). set xs j x) here.0 ∙ ap (λ (y : X). set xs (before key k xs) y) (sym a)
            ∙ first_set key k (λ (_ : X). x) x xs d here.1

-- the keys still differ where one is replaced by another of its key
pub distinct_replaced : {X : Type 0} (key : X → Key) (x : X) (xs : List X) → distinct key xs ≡ true → distinct key (map (altered key (key x) (λ _. x)) xs) ≡ true
distinct_replaced {X} key x xs d = distinct_altered key (key x) (λ (_ : X). x) (λ (y : X) e. same_key_lem (key x) (key y) e) xs d

-- what is admitted has a free key
pub admitted_free : (t full : Bool) {u : Unit {0}} → cond t (Err Taken) (cond full (Err Full) (Ok tt)) ≡ Ok u → t ≡ false
admitted_free true full e = grind arith
admitted_free false full e = refl
