-- Looking for the message that refuses. Assumes nothing.
use Rattle.std.proofs.Common.{◌≡◌, ℕ, ◌+◌, ◌<◌, List, [], Some, None, Ok, Err, Option, Result, MatchOption, IsTrue, sym, refl, ap, ◌∙◌}
use denote.Param.Members.{Mut, Called}
use Rattle.std.specs.Borrow.{Bor}
use Rattle.std.specs.Iterator.{FindsMapped}
use Rattle.std.specs.Iterator.Runs.{SomeRun, AllItemsGive, IsFirstToGive}
use Rattle.std.specs.Option.{unwrap_or}
use Rattle.reader.specs.declared.attribute.NetlinkMessage.{NetlinkMessage}
use Rattle.reader.specs.declared.messages.Messages.{Messages}
use Rattle.reader.proofs.Firsts.{onto, found as first}
use Rattle.records.specs.Layouts.{Message}
use Rattle.reader.specs.Walks.{Step, end, fault, item, on_step, beyond, Next}
use Rattle.reader.specs.Datagrams.{message_of, message_step, messages}
use Rattle.reader.specs.declared.fault.MessageFault.{MessageFault}
use Rattle.reader.specs.Classes.{class_of}
use Rattle.reader.specs.Refused.{row_behind, on_class, refused_row}
use Rattle.reader.proofs.Messaging.{messages_step}

abbrev pub refused_in : List ℕ → List ℕ
refused_in b = refused_row (messages b).found

refused_step : (b : List ℕ) (s : Step Message MessageFault) → message_step b ≡ s → refused_in b ≡ refused_row (on_step messages s).found
refused_step b s e = ap (λ r. refused_row r.found) (messages_step b ∙ ap (on_step messages) e)

-- looking on, message by message
abbrev MessagesStep : Messages → Option (Result NetlinkMessage MessageFault) → Messages → Type 0
MessagesStep s r t = Next message_of message_step s.rest.now r t.rest.now

abbrev rest_of : Messages → List ℕ
rest_of s = refused_in s.rest.now

abbrev first_row : Option (Bor (List ℕ)) → List ℕ → List ℕ
first_row = onto (λ r later. r.now)

-- the row that a message gives, if it refuses
abbrev pub Gives : Result NetlinkMessage MessageFault → Option (Bor (List ℕ)) → Type 0
Gives (Ok m) r = (later : List ℕ) → on_class (class_of m.header.kind m.data.now) (row_behind (message_of m)) later ≡ first_row r later
Gives (Err f) r = r ≡ None

none_left : refused_in [] ≡ []
none_left = refused_step [] end refl

handed : (s t : Messages) (x : Result NetlinkMessage MessageFault) (r : Option (Bor (List ℕ))) → MessagesStep s (Some x) t → Gives x r → rest_of s ≡ first_row r (rest_of t)
handed s t (Ok m) r n e = refused_step s.rest.now (item (message_of m) t.rest.now) n.step ∙ e (rest_of t)
handed s t (Err f) r n e =
    refused_step s.rest.now (fault f) n.step
    ∙ sym (ap refused_in (n.left ∙ ap (beyond s.rest.now) n.step) ∙ none_left)
    ∙ ap (λ o. first_row o (rest_of t)) (sym e)

ended : (s t : Messages) → MessagesStep s None t → (rest_of s ≡ []) × (rest_of t ≡ [])
ended s t n = let e = refused_step s.rest.now end n.step in (e, ap refused_in (n.left ∙ ap (beyond s.rest.now) n.step) ∙ e)

module _ {F : Type 0} (g : Mut F (Result NetlinkMessage MessageFault × Unit {0}) (Option (Bor (List ℕ))))
    (calls : (f : F) (x : Result NetlinkMessage MessageFault) (r : Option (Bor (List ℕ))) (q : F) → Called g f (x, tt) r q → (q ≡ f) × Gives x r) where
  pub found : (s u : Messages) (f : F) (r : Option (Bor (List ℕ))) → FindsMapped MessagesStep g s f r u →
      SomeRun MessagesStep s (λ p. MatchOption r (IsTrue p.whole × AllItemsGive p g f None) (λ y. (i : ℕ) × (i < p.len) × (p.len ≡ i + 1) × IsFirstToGive p g f (Some y) None i)) →
      MatchOption r ((rest_of s ≡ []) × (rest_of u ≡ [])) (λ x. rest_of s ≡ x.now)
  found = first MessagesStep rest_of [] (λ r later. r.now) ended g (λ f x r q k. (calls f x r q k).0) (λ s t f x r q n k. handed s t x r n (calls f x r q k).1)

pub row_found : (b : List ℕ) (r : Option (Bor (List ℕ))) (none : Bor (List ℕ)) (X : Type 0) → none.now ≡ [] → MatchOption r ((refused_in b ≡ []) × X) (λ x. refused_in b ≡ x.now) → (unwrap_or r none).now ≡ refused_in b
row_found b None none X n e = n ∙ sym e.0
row_found b (Some x) none X n e = sym e
