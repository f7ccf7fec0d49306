-- The walk over the messages of a datagram. Assumes nothing.
use Rattle.std.proofs.Common.{◌≡◌, ℕ, Bool, true, List, Some, Ok, Err, Result, sym, refl, ap, ◌∙◌}
use Rattle.reader.specs.Walks.{broken, Step, end, fault, item, on_step, Next}
use Rattle.records.specs.Layouts.{Message}
use Rattle.reader.specs.Datagrams.{message_step, messages, message_of}
use Rattle.reader.specs.declared.fault.MessageFault.{MessageFault}
use Rattle.reader.specs.declared.attribute.NetlinkMessage.{NetlinkMessage}
use Rattle.reader.proofs.Walking.{came, failed}
use Rattle.reader.proofs.Messaging.{messages_step}
use Rattle.reader.specs.declared.fault.TurnFault.{TurnFault}
use Rattle.reader.specs.declared.stage.Stage.{Stage}
use Rattle.reader.specs.declared.stage.Stage.TheVariants.{Going, Ended, Faulted}
use Rattle.reader.specs.declared.class.Class.{Class}
use Rattle.reader.specs.Classes.{class_of}
use Rattle.reader.specs.Replies.{State, at, heeded, onwards, multi, at_end, closed}

any_last : (x : Stage) (last : Bool) (f : MessageFault) → at_end x last (broken f) ≡ at_end x true (broken f)
any_last Going last f = refl
any_last Ended last f = refl
any_last (Faulted e) last f = refl

module _ {T : Type 0} (fed : T → List ℕ → Result T TurnFault) (all : State T) where
  -- where the walk stands at s before `rest`, it comes to `all`
  abbrev pub Walks : State T → Bool → List ℕ → Type 0
  Walks s last rest = all ≡ onwards fed s last (messages rest)

  here : (s : State T) (last : Bool) (rest : List ℕ) (x : Step Message MessageFault) → Walks s last rest → message_step rest ≡ x → all ≡ onwards fed s last (on_step messages x)
  here s last rest x i e = i ∙ ap (onwards fed s last) (messages_step rest ∙ ap (on_step messages) e)

  -- the next message is heeded and the walk goes on, or it is at fault, or there is none
  module _ (s : State T) (last : Bool) {rest after : List ℕ} {x : Result NetlinkMessage MessageFault} (i : Walks s last rest) (n : Next message_of message_step rest (Some x) after) where
    pub walk_more : (s' : State T) (last' : Bool) {m : NetlinkMessage} {k : Class} → x ≡ Ok m → k ≡ class_of m.header.kind m.data.now →
        s' ≡ heeded fed s.stage s.table k m.data.now → last' ≡ multi (message_of m) → Walks s' last' after
    walk_more s' last' {m} e c p q =
        here s last rest (item (message_of m) after) i (came n m e)
        ∙ ap (λ (y : State T). onwards fed y (multi (message_of m)) (messages after)) (sym (p ∙ ap (λ (y : Class). heeded fed s.stage s.table y m.data.now) c))
        ∙ ap (λ (y : Bool). onwards fed s' y (messages after)) (sym q)

    -- with what the exit of a `?` says
    pub walk_fault : (r : Result Bool MessageFault) {f g : MessageFault} → x ≡ Err f → r ≡ Err g → g ≡ f → all ≡ closed s r
    walk_fault r {f} {g} e p q =
        here s last rest (fault f) i (failed n f e)
        ∙ ap (λ (y : Stage). at y s.table) (any_last s.stage last f)
        ∙ ap (λ (y : MessageFault). closed s (Err y)) (sym q)
        ∙ ap (closed s) (sym p)

  pub walk_end : (s : State T) (last : Bool) (rest : List ℕ) → Walks s last rest → message_step rest ≡ end → all ≡ closed s (Ok last)
  walk_end s last rest i e = here s last rest end i e
