-- Pieces cut from bytes: more of them, a longer last one, the first taken off. Assumes nothing.
use Rattle.std.proofs.Common.{◌≡◌, ℕ, ◌+◌, ◌*◌, ◌<◌, ◌≤◌, leb, List, [], ◌∷◌, ◌++◌, length, take, drop, refl, ap, arith, take-add}
use Rattle.std.specs.List.{AllByRecursion}
use Rattle.std.proofs.lemmas.List.{take_at, take-append-drop, take-take, drop-take, take-append-le, drop-append-le, length-drop, length-append, length-take-le, append_assoc}
use Rattle.std.proofs.lemmas.Bool.{le-leb, lt-leb, cond-true, cond-false}
use Rattle.queue.specs.Cuts.{total, Sized, cut, bulk, joined}

-- what lies past the pieces does not matter
pub cut_front : (ns b r : List ℕ) → total ns ≤ length b → cut ns (b ++ r) ≡ cut ns b
cut_front [] b r h = refl
cut_front (n ∷ ns) b r h =
    let t = take-append-le n b r (omega arith) in
    let d = drop-append-le n b r (omega arith) in
    let i = cut_front ns (drop n b) r (simp length-drop (omega arith)) in
    cc

-- more pieces behind the others
pub cut_more : (ns ms b r : List ℕ) → total ns ≤ length b → cut (ns ++ ms) (take (total ns) b ++ r) ≡ cut ns b ++ cut ms r
cut_more [] ms b r h = refl
cut_more (n ∷ ns) ms b r h =
    let l : length (take (n + total ns) b) ≡ n + total ns = length-take-le (n + total ns) b h in
    let t = take-append-le n (take (n + total ns) b) r (omega arith) in
    let u = take-take n (n + total ns) b (omega arith) in
    let v = drop-append-le n (take (n + total ns) b) r (omega arith) in
    let w = drop-take n (total ns) b in
    let i = cut_more ns ms (drop n b) r (simp length-drop (omega arith)) in
    cc

pub cut_last : (ns : List ℕ) (n : ℕ) (b : List ℕ) → total ns ≤ length b → cut (ns ++ n ∷ []) b ≡ cut ns b ++ take n (drop (total ns) b) ∷ []
cut_last ns n b h =
    let g = cut_more ns (n ∷ []) b (drop (total ns) b) h in
    let e = take-append-drop (total ns) b in
    cc

-- the last piece made longer
pub cut_grow : (ns : List ℕ) (n : ℕ) (b m r : List ℕ) → total ns + n ≤ length b → cut (ns ++ (n + length m) ∷ []) (take (total ns + n) b ++ (m ++ r)) ≡ cut ns b ++ (take n (drop (total ns) b) ++ m) ∷ []
cut_grow ns n b m r h =
    let p = take n (drop (total ns) b) in
    let l : length (take n (drop (total ns) b)) ≡ n = length-take-le n (drop (total ns) b) (simp length-drop (omega arith)) in
    let a = take-add (total ns) n b in
    let s = append_assoc (take (total ns) b) p (m ++ r) in
    let v = append_assoc p m r in
    let t = take_at (p ++ m) r (n + length m) (simp length-append (omega arith)) in
    let g = cut_more ns ((n + length m) ∷ []) b (p ++ (m ++ r)) (omega arith) in
    cc

pub bulk_cut : (ns b : List ℕ) → total ns ≤ length b → bulk (cut ns b) ≡ total ns
bulk_cut [] b h = refl
bulk_cut (n ∷ ns) b h =
    let l = length-take-le n b (omega arith) in
    let i = bulk_cut ns (drop n b) (simp length-drop (omega arith)) in
    omega arith

pub total_more : (ns ms : List ℕ) → total (ns ++ ms) ≡ total ns + total ms
total_more [] ms = omega arith
total_more (n ∷ ns) ms = let i = total_more ns ms in omega arith

-- each at least 16: the sum is at least as many times 16
pub least_total : (ns : List ℕ) → AllByRecursion Sized ns → 16 * length ns ≤ total ns
least_total [] a = omega arith
least_total (n ∷ ns) a = let i = least_total ns a.1 in let f = a.0.0 in omega arith

-- the pieces are as long as their lengths say
pub sized_cut : (ns b : List ℕ) → total ns ≤ length b → AllByRecursion Sized ns → AllByRecursion (λ d. Sized (length d)) (cut ns b)
sized_cut [] b h a = tt
sized_cut (n ∷ ns) b h a =
    let l = length-take-le n b (omega arith) in
    ((omega arith, omega arith), sized_cut ns (drop n b) (simp length-drop (omega arith)) a.1)

-- a message behind the last piece, and one behind the others
pub joined_last : (ws : List (List ℕ)) (d m : List ℕ) → length d + length m ≤ 4096 → joined (ws ++ d ∷ []) m ≡ ws ++ (d ++ m) ∷ []
joined_last [] d m h = cond-true (leb (length d + length m) 4096) _ _ (le-leb _ _ h)
joined_last (w ∷ []) d m h = ap (λ (x : List (List ℕ)). w ∷ x) (joined_last [] d m h)
joined_last (w ∷ v ∷ ws) d m h = ap (λ (x : List (List ℕ)). w ∷ x) (joined_last (v ∷ ws) d m h)

pub joined_new : (ws : List (List ℕ)) (d m : List ℕ) → 4096 < length d + length m → joined (ws ++ d ∷ []) m ≡ (ws ++ d ∷ []) ++ m ∷ []
joined_new [] d m h = cond-false (leb (length d + length m) 4096) _ _ (lt-leb _ _ h)
joined_new (w ∷ []) d m h = ap (λ (x : List (List ℕ)). w ∷ x) (joined_new [] d m h)
joined_new (w ∷ v ∷ ws) d m h = ap (λ (x : List (List ℕ)). w ∷ x) (joined_new (v ∷ ws) d m h)
