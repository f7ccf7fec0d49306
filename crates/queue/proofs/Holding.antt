-- The calls of a queue over its lengths ns and its bytes b. Assumes nothing.
use Rattle.std.proofs.Common.{◌≡◌, ℕ, ◌+◌, ◌-◌, ◌<◌, ◌≤◌, Bool, true, false, cond, ◌&&◌, nat_le, nat_lt, List, [], ◌∷◌, ◌++◌, length, get_or, take, drop, set, Result, Ok, Err, IsErr, ◌≢◌, ◌⊎◌, ⊎_elim, sym, refl, ap, ◌∙◌, arith}
use Rattle.std.specs.List.{AllByRecursion}
use Rattle.std.proofs.lemmas.List.{append-nil, take_more, take_more_set, take_all, get_or-set_same, get_or-set_other, length-append, length-set, length-take-le, length-drop}
use Rattle.std.proofs.ByRecursion.{All-append, All-get_or, All-from_get_or}
use Rattle.std.proofs.lemmas.Bool.{le-leb, leb-true, leb-false, lt-ltb, and_parts}
use Rattle.capped.specs.Values.{values, room}
use Rattle.capped.specs.declared.list.Full.{Full}
use Rattle.queue.specs.declared.queue.Queue.{Queue}
use Rattle.queue.specs.Cuts.{total, Sized, cut, bulk, takes, joined}
use Rattle.queue.specs.Waiting.{waiting}
use Rattle.queue.proofs.Cutting.{cut_more, cut_last, cut_grow, bulk_cut, total_more, least_total, sized_cut, joined_last, joined_new}

-- each length of a queue
pub all : (q : Queue) → AllByRecursion Sized (values q.lens)
all q = All-from_get_or Sized (values q.lens) 0 q.each

-- every datagram that waits has a length that a datagram may have
pub waiting_sized : (q : Queue) → AllByRecursion (λ d. Sized (length d)) (waiting q)
waiting_sized q = let s = q.sum in sized_cut (values q.lens) (values q.bytes) (omega arith) (all q)

-- bytes as long as the lengths say
module _ (ns b : List ℕ) (s : length b ≡ total ns) where
  pub held_bulk : bulk (cut ns b) ≡ length b
  held_bulk = bulk_cut ns b (omega arith) ∙ sym s

  whole : take (total ns) b ≡ b
  whole = take_all (total ns) b (omega arith)

  -- what takes says of a datagram that has its size
  pub takes_room : (d : List ℕ) → (nat_le 16 (length d) && nat_le (length d) 4096) ≡ true → takes (cut ns b) d ≡ nat_le (length b + length d) 16384
  takes_room d e = step (nat_le 16 (length d)) (nat_le (length d) 4096) e ∙ ap (λ (n : ℕ). nat_le (n + length d) 16384) held_bulk
    where
      step : (p q : Bool) → (p && q) ≡ true → (p && (q && nat_le (bulk (cut ns b) + length d) 16384)) ≡ nat_le (bulk (cut ns b) + length d) 16384
      step true true e = refl
      step true false e = grind arith
      step false q e = grind arith

  pub takes_none : (d : List ℕ) → (nat_le 16 (length d) && nat_le (length d) 4096) ≡ false → takes (cut ns b) d ≡ false
  takes_none d e = step (nat_le 16 (length d)) (nat_le (length d) 4096) e
    where
      step : (p q : Bool) → (p && q) ≡ false → (p && (q && nat_le (bulk (cut ns b) + length d) 16384)) ≡ false
      step true true e = grind arith
      step true false e = refl
      step false q e = refl

  -- one more datagram behind the others
  module _ (d : List ℕ) where
    pub pushed_sum : length (b ++ d) ≡ total (ns ++ length d ∷ [])
    pushed_sum = let t = total_more ns (length d ∷ []) in let l = length-append b d in omega arith

    pub pushed_cut : cut (ns ++ length d ∷ []) (b ++ d) ≡ cut ns b ++ d ∷ []
    pushed_cut =
        let g = cut_more ns (length d ∷ []) b d (omega arith) in
        let w = whole in
        let t = take_all (length d) d (omega arith) in
        cc

  -- all of another queue behind the others
  module _ (ms o : List ℕ) (t : length o ≡ total ms) where
    pub appended_sum : length (b ++ o) ≡ total (ns ++ ms)
    appended_sum = let m = total_more ns ms in let l = length-append b o in omega arith

    pub appended_cut : cut (ns ++ ms) (b ++ o) ≡ cut ns b ++ cut ms o
    appended_cut =
        let g = cut_more ns ms b o (omega arith) in
        let w = whole in
        cc

  -- more bytes behind the last datagram
  module _ (some : 0 < length ns) (m : List ℕ) where
    abbrev pub front : List ℕ
    front = take (length ns - 1) ns

    abbrev pub n : ℕ
    n = get_or ns (length ns - 1) 0

    last : ns ≡ front ++ n ∷ []
    last =
        let e : length ns - 1 + 1 ≡ length ns = omega arith in
        let t = take_more ns (length ns - 1) 0 (omega arith) in
        let w = take_all (length ns) ns (omega arith) in
        cc

    longer : set ns (length ns - 1) (n + length m) ≡ front ++ (n + length m) ∷ []
    longer =
        let e : length ns - 1 + 1 ≡ length ns = omega arith in
        let l = length-set ns (length ns - 1) (n + length m) in
        let t = take_more_set ns (length ns - 1) (n + length m) (omega arith) in
        let w = take_all (length ns) (set ns (length ns - 1) (n + length m)) (omega arith) in
        cc

    last_total : length b ≡ total front + n
    last_total = let t = total_more front (n ∷ []) in let e = ap total last in omega arith

    pub grown_sum : length (b ++ m) ≡ total (set ns (length ns - 1) (n + length m))
    grown_sum =
        let t = total_more front ((n + length m) ∷ []) in
        let e = ap total longer in
        let l = length-append b m in
        let f = last_total in
        omega arith

    last_cut : cut ns b ≡ cut front b ++ take n (drop (total front) b) ∷ []
    last_cut =
        let w = last_total in
        let e = last in
        let g = cut_last front n b (omega arith) in
        cc

    last_length : length (take n (drop (total front) b)) ≡ n
    last_length = let w = last_total in length-take-le n (drop (total front) b) (simp length-drop (omega arith))

    pub grown_cut : n + length m ≤ 4096 → cut (set ns (length ns - 1) (n + length m)) (b ++ m) ≡ joined (cut ns b) m
    grown_cut z =
        let w = last_total in
        let t = take_all (total front + n) b (omega arith) in
        let g = cut_grow front n b m [] (omega arith) in
        let i = append-nil m in
        let x = last_length in
        let y = joined_last (cut front b) (take n (drop (total front) b)) m (omega arith) in
        let k = ap (λ (ws : List (List ℕ)). joined ws m) last_cut in
        let l = longer in
        cc

    pub new_cut : 4096 < n + length m → joined (cut ns b) m ≡ cut ns b ++ m ∷ []
    new_cut z =
        let x = last_length in
        let y = joined_new (cut front b) (take n (drop (total front) b)) m (omega arith) in
        let e = last_cut in
        let k = ap (λ (ws : List (List ℕ)). joined ws m) e in
        cc

-- each length still has its size
pub each_set : (ns : List ℕ) (i x : ℕ) → i < length ns → Sized x → ((k : ℕ) → k < length ns → Sized (get_or ns k 0)) →
    (k : ℕ) → k < length (set ns i x) → Sized (get_or (set ns i x) k 0)
each_set ns i x h z a k l = ⊎_elim
    (λ (q : k ≡ i). rw q (rw (get_or-set_same ns i x 0 h) z))
    (λ (q : k ≢ i). rw (get_or-set_other ns i k x 0 q) (a k (omega (arith, length-set ns i x))))
    (apart i k)
  where
    apart : (i j : ℕ) → (j ≡ i) ⊎ (j ≢ i)
    apart i j = grind arith

pub each_more : (ns ms : List ℕ) → ((k : ℕ) → k < length ns → Sized (get_or ns k 0)) → AllByRecursion Sized ms → (k : ℕ) → k < length (ns ++ ms) → Sized (get_or (ns ++ ms) k 0)
each_more ns ms a z k h = All-get_or Sized (ns ++ ms) k 0 h (All-append Sized ns ms (All-from_get_or Sized ns 0 a) z)

-- what a result says of its test
pub room_is : (b : Bool) {u : Unit {0}} → room b ≡ Ok u → b ≡ true
room_is true e = refl
room_is false e = grind arith

pub room_not : (b : Bool) (f : Full) → room b ≡ Err f → b ≡ false
room_not true f e = grind arith
room_not false f e = refl

pub full : (r : Result (Unit {0}) Full) → IsErr r → r ≡ room false
full (Ok u) e = grind arith
full (Err f) e = refl

pub chosen : {X : Type 0} (b : Bool) (x y : X) → b ≡ true → cond b x y ≡ x
chosen true x y e = refl
chosen false x y e = grind arith

pub passed_by : {X : Type 0} (b : Bool) (x y : X) → b ≡ false → cond b x y ≡ y
passed_by true x y e = grind arith
passed_by false x y e = refl

-- there is a place for the length of each datagram that has room
pub place_left : (q : Queue) (n : ℕ) → (nat_le 16 n && nat_le n 4096) ≡ true → nat_le (length (values q.bytes) + n) 16384 ≡ true → length (values q.lens) < 1024
place_left q n z e =
    let p = and_parts (nat_le 16 n) _ z in
    let l = leb-true _ _ p.0 in
    let m = leb-true _ _ e in
    let t = least_total (values q.lens) (all q) in
    let s = q.sum in
    omega arith

pub below : (n m : ℕ) → n < m → nat_lt n m ≡ true
below n m h = lt-ltb _ _ h

pub up_to : (n m : ℕ) → n ≤ m → nat_le n m ≡ true
up_to n m h = le-leb _ _ h

pub places_left : (q r : Queue) → nat_le (length (values q.bytes) + length (values r.bytes)) 16384 ≡ true → length (values q.lens) + length (values r.lens) ≤ 1024
places_left q r e =
    let m = leb-true _ _ e in
    let t = least_total (values q.lens) (all q) in
    let u = least_total (values r.lens) (all r) in
    let s = q.sum in
    let v = r.sum in
    omega arith

pub sized : (n : ℕ) → (nat_le 16 n && nat_le n 4096) ≡ true → Sized n
sized n z = let p = and_parts (nat_le 16 n) _ z in (leb-true _ _ p.0, leb-true _ _ p.1)

-- a message that does not go behind the last piece
module _ (ns b : List ℕ) (s : length b ≡ total ns) (m : List ℕ) where
  abbrev grows : Bool
  grows = nat_lt 0 (length ns) && nat_le (get_or ns (length ns - 1) 0 + length m) 4096

  apart : grows ≡ false → joined (cut ns b) m ≡ cut ns b ++ m ∷ []
  apart e = none ns b s e
    where
      none : (ns b : List ℕ) → length b ≡ total ns → (nat_lt 0 (length ns) && nat_le (get_or ns (length ns - 1) 0 + length m) 4096) ≡ false → joined (cut ns b) m ≡ cut ns b ++ m ∷ []
      none [] b s e = refl
      none (n ∷ ns) b s e =
          let t = rw (lt-ltb 0 (length (n ∷ ns)) (omega arith)) at e in
          new_cut (n ∷ ns) b s (omega arith) m (leb-false _ _ t)

  pub pushed_on : ((nat_le 16 (length m) && nat_le (length m) 4096) && grows) ≡ false →
      cond (takes (cut ns b) m) (cut ns b ++ m ∷ []) (cut ns b) ≡ cond (takes (cut ns b) m) (joined (cut ns b) m) (cut ns b)
  pushed_on e = by (nat_le 16 (length m) && nat_le (length m) 4096) grows refl refl e
    where
      by : (p q : Bool) → (nat_le 16 (length m) && nat_le (length m) 4096) ≡ p → grows ≡ q → (p && q) ≡ false →
          cond (takes (cut ns b) m) (cut ns b ++ m ∷ []) (cut ns b) ≡ cond (takes (cut ns b) m) (joined (cut ns b) m) (cut ns b)
      by true true a g e = grind arith
      by true false a g e = ap (λ (ws : List (List ℕ)). cond (takes (cut ns b) m) ws (cut ns b)) (sym (apart g))
      by false q a g e = passed_by _ _ _ (takes_none ns b s m a) ∙ sym (passed_by _ _ _ (takes_none ns b s m a))

-- the bytes of two queues
pub bulks : (q r : Queue) → nat_le (bulk (waiting q) + bulk (waiting r)) 16384 ≡ nat_le (length (values q.bytes) + length (values r.bytes)) 16384
bulks q r =
    let s = held_bulk (values q.lens) (values q.bytes) q.sum in
    let t = held_bulk (values r.lens) (values r.bytes) r.sum in
    cc
