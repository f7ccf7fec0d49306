-- A receive hands out the first datagram. Assumes nothing.
use Rattle.std.proofs.Common.{◌≡◌, ℕ, ◌≤◌, Bool, true, false, cond, leb, List, [], ◌∷◌, ◌++◌, length, take, drop, ℤ, pos, Some, None, Option, Result, sym, refl, ap, ◌∙◌, arith}
use Rattle.std.specs.Option.{ok_or}
use Rattle.std.proofs.lemmas.Bool.{le-leb, leb-true}
use Rattle.std.proofs.lemmas.List.{take_at, length-append}
use Rattle.queue.specs.Cuts.{fitting, behind, fronted}
use Rattle.hosts.specs.Events.{datagram, failed, gotten, laid, Sized}
use Rattle.hosts.specs.Meaning.{Filter}
use Rattle.keyed.proofs.Keyed.{and_left, and_right}
use Rattle.bench.specs.Wholeness.{some, is_datagram, all_datagrams}
use Rattle.reader.specs.Datagrams.{messages}
use Rattle.bench.specs.Calls.{state, came, rest}

short : (d : List ℕ) (ds : List (List ℕ)) → all_datagrams (d ∷ ds) ≡ true → length d ≤ 4096
short d ds w = leb-true (length d) 4096 (and_right (some (messages d).found (messages d).stop) _ (and_left (is_datagram d) _ w))

-- b is the buffer, and out what it holds then
module _ (b : List ℕ) (h : 4096 ≤ length b) where
  long : leb 4096 (length b) ≡ true
  long = le-leb 4096 (length b) h

  pub record Handed (ws ws' : List (List ℕ)) (fs : List Filter) (n : ℕ) (out : List ℕ) : Type 0 where
    pub gives : datagram (take n out) ≡ came (length b) ws
    pub leaves : state fs ws' ≡ state fs (rest (length b) ws)
    pub lays : out ≡ take n out ++ drop (length (take n out)) b
    pub inside : n ≤ length out

  pub handed : (ws ws' : List (List ℕ)) (fs : List Filter) (n : ℕ) (out : List ℕ) → all_datagrams ws ≡ true → Some n ≡ fitting (length b) ws → ws' ≡ behind (length b) ws →
      out ≡ fronted ws b → Handed ws ws' fs n out
  handed [] ws' fs n out w a l o = let z : ◌≡◌ {A = ℕ} 0 1 = cc in absurd (omega arith)
  handed (d ∷ ds) ws' fs n out w a l o =
      let fits : leb (length d) (length b) ≡ true = let s = short d ds w in le-leb (length d) (length b) (omega arith) in
      let is : Some n ≡ Some (length d) = a ∙ ap (λ (x : Bool). cond {A = Option ℕ} x (Some (length d)) None) fits in
      let m : n ≡ length d = cc in
      let p : out ≡ d ++ drop (length d) b = o ∙ ap (λ (x : Bool). cond x (d ++ drop (length d) b) b) fits in
      let t : take n out ≡ d = ap (λ (k : ℕ). take k out) m ∙ ap (take (length d)) p ∙ take_at d (drop (length d) b) (length d) refl in
      record {
        gives = ap datagram t ∙ sym (ap (λ (x : Bool). cond x (datagram d) (failed (pos 22))) long);
        leaves = ap (state fs) (l ∙ ap (λ (x : Bool). cond x ds (d ∷ ds)) fits ∙ sym (ap (λ (x : Bool). cond x ds (d ∷ ds)) long));
        lays = p ∙ sym (ap (λ (x : List ℕ). x ++ drop (length x) b) t);
        inside = omega (arith, m, ap length p, length-append d (drop (length d) b));
      }

  pub record Empty (ws ws' : List (List ℕ)) (fs : List Filter) (out : List ℕ) : Type 0 where
    pub gives : failed (pos 11) ≡ came (length b) ws
    pub leaves : state fs ws' ≡ state fs (rest (length b) ws)
    pub lays : out ≡ b

  pub empty : (ws ws' : List (List ℕ)) (fs : List Filter) (out : List ℕ) → all_datagrams ws ≡ true → None ≡ fitting (length b) ws → ws' ≡ behind (length b) ws → out ≡ fronted ws b →
      Empty ws ws' fs out
  empty [] ws' fs out w a l o =
      record {
        gives = sym (ap (λ (x : Bool). cond x (failed (pos 11)) (failed (pos 22))) long);
        leaves = ap (state fs) (l ∙ sym (ap (λ (x : Bool). cond {A = List (List ℕ)} x [] []) long));
        lays = o;
      }
  empty (d ∷ ds) ws' fs out w a l o =
      let fits : leb (length d) (length b) ≡ true = let s = short d ds w in le-leb (length d) (length b) (omega arith) in
      let is : None ≡ Some (length d) = a ∙ ap (λ (x : Bool). cond {A = Option ℕ} x (Some (length d)) None) fits in
      let z : ◌≡◌ {A = ℕ} 0 1 = cc in
      absurd (omega arith)

-- the datagram or nothing, as a receive answers it
module _ (b : List ℕ) (h : 4096 ≤ length b) where
  pub record Answered (ws ws' : List (List ℕ)) (fs : List Filter) (r : Result ℕ ℤ) (out : List ℕ) : Type 0 where
    pub gives : gotten r out ≡ came (length b) ws
    pub leaves : state fs ws' ≡ state fs (rest (length b) ws)
    pub lays : out ≡ laid b (gotten r out)
    pub inside : Sized r out

  pub answered : (ws ws' : List (List ℕ)) (fs : List Filter) (o : Option ℕ) (out : List ℕ) → all_datagrams ws ≡ true → o ≡ fitting (length b) ws → ws' ≡ behind (length b) ws →
      out ≡ fronted ws b → Answered ws ws' fs (ok_or o (pos 11)) out
  answered ws ws' fs None out w a l o =
      let e = empty b h ws ws' fs out w a l o in
      record { gives = e.gives; leaves = e.leaves; lays = e.lays; inside = tt }
  answered ws ws' fs (Some n) out w a l o =
      let e = handed b h ws ws' fs n out w a l o in
      record { gives = e.gives; leaves = e.leaves; lays = e.lays; inside = e.inside }

pub whole_behind : (n : ℕ) (ws : List (List ℕ)) → all_datagrams ws ≡ true → all_datagrams (behind n ws) ≡ true
whole_behind n [] w = refl
whole_behind n (d ∷ ds) w = by (leb (length d) n)
  where
    by : (b : Bool) → all_datagrams (cond b ds (d ∷ ds)) ≡ true
    by true = and_right (is_datagram d) _ w
    by false = w
