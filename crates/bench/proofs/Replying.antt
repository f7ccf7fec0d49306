-- The bytes that are written are those of the replies, and they have room. Assumes nothing.
use Rattle.std.proofs.Common.{◌≡◌, ℕ, ◌+◌, ◌≤◌, Bool, true, cond, leb, List, [], ◌∷◌, ◌++◌, length, take, drop, replicate, ℤ, None, Ok, Err, Option, Result, sym, ap, ◌∙◌, arith}
use Rattle.std.proofs.lemmas.List.{take_at}
use Rattle.std.proofs.lemmas.Bool.Decides.{nat_tests}
use Rattle.records.specs.Fields.{nlmsghdr_of, nlmsghdr_bytes, nlmsgerr_bytes}
use Rattle.records.specs.declared.nlmsghdr.Nlmsghdr.{Nlmsghdr}
use Rattle.records.specs.declared.nlmsgerr.Nlmsgerr.{Nlmsgerr}
use Rattle.requests.specs.FilterMessages.{filter_bytes, filter_fault}
use Rattle.requests.specs.Refusals.{room_fault, unless, written}
use Rattle.requests.specs.declared.fault.ArgumentFault.{ArgumentFault}
use Rattle.capped.specs.Values.{room as room_for}
use Rattle.capped.specs.declared.list.Full.{Full}
use Rattle.queue.specs.Cuts.{bulk, takes}
use Rattle.hosts.specs.Meaning.{Filter}
use Rattle.filters.specs.Fitting.{Stands}
use Rattle.bench.specs.Replies.{told_bytes, answer_bytes, done_bytes}
use Rattle.bench.specs.Paging.{filter_parts, told_long, answer_long, done_long}

pub answer_laid : (q : List ℕ) (status : ℤ) (o1 o2 : List ℕ) (h : Nlmsghdr) (e : Nlmsgerr) → h ≡ record { len = 36; kind = 2; flags = 256; seq = 1; pid = 0 } →
    e ≡ record { status = status; header = nlmsghdr_of q } → o1 ≡ take 0 (replicate 36 0) ++ (nlmsghdr_bytes h ++ drop 16 (replicate 36 0)) →
    o2 ≡ take 16 o1 ++ (nlmsgerr_bytes e ++ drop 36 o1) → o2 ≡ answer_bytes q status
unfolding answer_bytes
answer_laid q status o1 o2 h e ph pe p1 p2 =
    p2 ∙ ap (λ (o : List ℕ). take 16 o ++ (nlmsgerr_bytes e ++ drop 36 o)) p1 ∙ ap (λ (x : Nlmsghdr). nlmsghdr_bytes x ++ nlmsgerr_bytes e) ph
    ∙ ap (λ (x : Nlmsgerr). nlmsghdr_bytes (record { len = 36; kind = 2; flags = 256; seq = 1; pid = 0 }) ++ nlmsgerr_bytes x) pe

pub done_laid : (o1 : List ℕ) (h : Nlmsghdr) → h ≡ record { len = 20; kind = 3; flags = 2; seq = 1; pid = 0 } →
    o1 ≡ take 0 (replicate 20 0) ++ (nlmsghdr_bytes h ++ drop 16 (replicate 20 0)) → o1 ≡ done_bytes
unfolding done_bytes
done_laid o1 h ph p1 = p1 ∙ ap (λ (x : Nlmsghdr). nlmsghdr_bytes x ++ (0 ∷ 0 ∷ 0 ∷ 0 ∷ [])) ph

-- a filter that stands is written whole into 324 bytes
pub told_written : (flags : ℕ) (f g : Filter) (r : Result ℕ ArgumentFault) → Stands f → g ≡ f →
    r ≡ written (filter_fault g.key g.kind g.name) (filter_bytes flags g.key g.kind g.name) 324 → r ≡ Ok (length (told_bytes flags f))
told_written flags f g r s a e =
    let n = (told_long flags f s).1 in
    let fits : room_fault 324 (length (told_bytes flags f)) ≡ None = grind (arith, nat_tests) in
    let fault : filter_fault f.key f.kind f.name ≡ None = (filter_parts f.key f.kind f.name s.0).0 in
    e
    ∙ ap (λ (x : Filter). written (filter_fault x.key x.kind x.name) (filter_bytes flags x.key x.kind x.name) 324) a
    ∙ ap (λ (x : Option ArgumentFault). written x (told_bytes flags f) 324) fault
    ∙ ap (λ (x : Option ArgumentFault). unless x (length (told_bytes flags f))) fits

pub told_front : (flags : ℕ) (f g : Filter) (n : ℕ) (last zeros : List ℕ) → g ≡ f →
    n ≡ length (told_bytes flags f) → last ≡ filter_bytes flags g.key g.kind g.name ++ drop n zeros → take n last ≡ told_bytes flags f
told_front flags f g n last zeros a e q =
    let s : filter_bytes flags g.key g.kind g.name ≡ told_bytes flags f = ap (λ (x : Filter). filter_bytes flags x.key x.kind x.name) a in
    ap (take n) q ∙ ap (λ (x : List ℕ). take n (x ++ drop n zeros)) s ∙ take_at (told_bytes flags f) (drop n zeros) n (sym e)

-- room for one more
room : (ws : List (List ℕ)) (m : List ℕ) → 16 ≤ length m → length m ≤ 384 → bulk ws ≤ 16000 → takes ws m ≡ true
room ws m a b c =
    let x : leb 16 (length m) ≡ true = grind (arith, nat_tests) in
    let y : leb (length m) 4096 ≡ true = grind (arith, nat_tests) in
    let z : leb (bulk ws + length m) 16384 ≡ true = grind (arith, nat_tests) in
    cc

module _ (ws : List (List ℕ)) (piece m : List ℕ) (e : piece ≡ m) (a : 16 ≤ length m) (b : length m ≤ 384) (c : bulk ws ≤ 16000) where
  taken : takes ws piece ≡ true
  taken = ap (takes ws) e ∙ room ws m a b c

  pub has_room : (added : List ℕ → List (List ℕ)) (ws' : List (List ℕ)) → ws' ≡ cond (takes ws piece) (added piece) ws → ws' ≡ added m
  has_room added ws' q = q ∙ ap (λ (x : Bool). cond x (added piece) ws) taken ∙ ap added e

  pub not_full : (r : Result (Unit {0}) Full) → r ≡ room_for (takes ws piece) → r ≡ Ok tt
  not_full r p = p ∙ ap room_for taken

pub answer_room : (q : List ℕ) (s : ℤ) → (16 ≤ length (answer_bytes q s)) × (length (answer_bytes q s) ≤ 384)
answer_room q s = (omega (arith, answer_long q s), omega (arith, answer_long q s))

pub done_room : (16 ≤ length done_bytes) × (length done_bytes ≤ 384)
done_room = (omega (arith, done_long), omega (arith, done_long))

pub told_room : (flags : ℕ) (f : Filter) → Stands f → (16 ≤ length (told_bytes flags f)) × (length (told_bytes flags f) ≤ 384)
told_room flags f s = let l = told_long flags f s in (omega (arith, l.0), omega (arith, l.1))

pub ok_not_err : {X E : Type 0} (r : Result X E) (x : X) (e : E) → r ≡ Ok x → r ≡ Err e → ⊥
ok_not_err r x e p q = let z : ◌≡◌ {A = ℕ} 0 1 = cc in omega arith

pub ok_same : {X E : Type 0} (n m : X) → ◌≡◌ {A = Result X E} (Ok n) (Ok m) → n ≡ m
ok_same n m e = cc
