-- A listing that is cut into datagrams in two ways. Assumes nothing.
use Rattle.std.proofs.Common.{◌≡◌, ℕ, ◌≤◌, Bool, true, false, cond, ltb, int_lt, List, [], ◌∷◌, ◌++◌, length, drop, ℤ, pos, Some, None, fold, Option, Result, sym, refl, ap, ◌∙◌, arith}
use Rattle.std.proofs.lemmas.Bool.{cond_both}
use Rattle.std.proofs.lemmas.Bool.Decides.{nat_tests}
use Rattle.reader.specs.Walks.{clean, whole}
use Rattle.records.specs.Layouts.{Message, Messages}
use Rattle.reader.specs.Datagrams.{messages}
use Rattle.reader.proofs.Messaging.{messages_read}
use Rattle.reader.specs.declared.fault.TurnFault.{TurnFault}
use Rattle.reader.specs.declared.stage.Stage.{Stage}
use Rattle.reader.specs.declared.stage.Stage.TheVariants.{Going, Ended, Faulted}
use Rattle.reader.specs.declared.class.Class.{Class}
use Rattle.reader.specs.declared.class.Class.TheVariants.{Refused, Done}
use Rattle.reader.specs.Classes.{status_of, class_of, done_by, refusal}
use Rattle.reader.specs.Replies.{State, at, last_multi, at_end, too_long, ending, step, heeded, onwards, took, reply, over}
use Rattle.reader.specs.Cuts.{Cut, none, more, AllMulti, Listing, Uncut}

folded_append : {A B : Type 0} (f : B → A → B) (a : B) (xs ys : List A) → fold f a (xs ++ ys) ≡ fold f (fold f a xs) ys
folded_append f a [] ys = refl
folded_append f a (x ∷ xs) ys = folded_append f (f a x) xs ys

front_multi : (xs ys : List Message) → AllMulti (xs ++ ys) → AllMulti xs × AllMulti ys
front_multi [] ys a = (tt, a)
front_multi (x ∷ xs) ys a = let r = front_multi xs ys a.1 in ((a.0, r.0), r.1)

last_of_multis : (ms : List Message) → AllMulti ms → last_multi true ms ≡ true
last_of_multis [] a = refl
last_of_multis (m ∷ ms) a = ap (λ (l : Bool). last_multi l ms) a.0 ∙ last_of_multis ms a.1

short : (n : ℕ) → n ≤ 4096 → ltb 4096 n ≡ false
short n h = grind (arith, nat_tests)

goes_on : (x : Stage) → at_end x true clean ≡ x
goes_on Going = refl
goes_on Ended = refl
goes_on (Faulted f) = refl

module _ {T : Type 0} (fed : T → List ℕ → Result T TurnFault) where
  whole_datagram : (s : State T) (d : List ℕ) (ms : List Message) → Messages d ms → length d ≤ 4096 → AllMulti ms → took fed s d ≡ fold (step fed) s ms
  whole_datagram s d ms l k a =
      let t : took fed s d ≡ onwards fed s true (messages d) = ap (λ (x : Bool). cond x (too_long s (length d)) (onwards fed s true (messages d))) (short (length d) k) in
      let e : messages d ≡ whole ms = (messages_read d ms).0 l in
      t
      ∙ ap (onwards fed s true) e
      ∙ ap (λ (x : Bool). ending (fold (step fed) s ms) x clean) (last_of_multis ms a)
      ∙ ap (λ (x : Stage). at x (fold (step fed) s ms).table) (goes_on (fold (step fed) s ms).stage)

  pub uncut : (s : State T) (ds : List (List ℕ)) (ms : List Message) → Cut ds ms → AllMulti ms → reply fed s ds ≡ fold (step fed) s ms
  uncut s ds ms none a = refl
  uncut s ds all (more {d} {ds = es} {m} {ms} {ns} l k c) a =
      let p = front_multi (m ∷ ms) ns a in
      uncut (took fed s d) es ns c p.1
      ∙ ap (λ (x : State T). fold (step fed) x ns) (whole_datagram s d (m ∷ ms) l k p.0)
      ∙ sym (folded_append (step fed) s (m ∷ ms) ns)

  -- a DONE ends what goes on
  done_over : (z : Option ℤ) (t : T) (p : List ℕ) → over (heeded fed Going t (done_by z p) p).stage ≡ true
  done_over None t p = refl
  done_over (Some z) t p =
      let P : Class → Type 0 = λ c. over (heeded fed Going t c p).stage ≡ true in
      cond_both (int_lt z (pos 0)) (Refused (refusal z (drop 4 p))) Done P (λ _. refl) (λ _. refl)

  at_done : (x : Stage) (t : T) (p : List ℕ) → over (heeded fed x t (done_by (status_of p) p) p).stage ≡ true
  at_done Going t p = done_over (status_of p) t p
  at_done Ended t p = refl
  at_done (Faulted f) t p = refl

  done_last : (s : State T) (m : Message) → m.kind ≡ 3 → over (step fed s m).stage ≡ true
  done_last s m e =
      let c : class_of m.kind m.payload ≡ done_by (status_of m.payload) m.payload = ap (λ (k : ℕ). class_of k m.payload) e in
      ap (λ (x : Class). over (heeded fed s.stage s.table x m.payload).stage) c ∙ at_done s.stage s.table m.payload

  listing_over : (s : State T) (ms : List Message) → Listing ms → over (fold (step fed) s ms).stage ≡ true
  listing_over s ms l =
      ap (λ (x : List Message). over (fold (step fed) s x).stage) l.ends
      ∙ ap (λ (x : State T). over x.stage) (folded_append (step fed) s l.before (l.last ∷ []))
      ∙ done_last (fold (step fed) s l.before) l.last l.done

  pub uncut_proof : Uncut fed
  uncut_proof s ds es ms l c d = (
    uncut s ds ms c l.multis ∙ sym (uncut s es ms d l.multis),
    ap (λ (x : State T). over x.stage) (uncut s ds ms c l.multis) ∙ listing_over s ms l,
  )
