-- How a listing is cut into datagrams makes no difference.
use Rattle.std.specs.Prelude.{◌≡◌, ℕ, ◌≤◌, true, List, [], ◌∷◌, ◌++◌, length, Result}
use Rattle.records.specs.Layouts.{Message, Messages}
use Rattle.reader.specs.declared.fault.TurnFault.{TurnFault}
use Rattle.reader.specs.Replies.{State, multi, reply, over}

-- the datagrams, each of one or more whole messages and at most 4,096 bytes, hold these messages in turn
pub data Cut : List (List ℕ) → List Message → Type 0 where
  none : Cut [] []
  more : {d : List ℕ} {ds : List (List ℕ)} {m : Message} {ms ns : List Message} → Messages d (m ∷ ms) → length d ≤ 4096 → Cut ds ns → Cut (d ∷ ds) ((m ∷ ms) ++ ns)

abbrev pub AllMulti : List Message → Type 0
AllMulti [] = Unit {0}
AllMulti (m ∷ ms) = (multi m ≡ true) × AllMulti ms

-- messages that all bear NLM_F_MULTI, the last of them a DONE
pub record Listing (ms : List Message) : Type 0 where
  pub before : List Message
  pub last : Message
  pub ends : ms ≡ before ++ last ∷ []
  pub done : last.kind ≡ 3
  pub multis : AllMulti ms

module _ {T : Type 0} (fed : T → List ℕ → Result T TurnFault) where
  -- two cuts of one listing come to the same, and it is over
  abbrev pub Uncut : Type 0
  Uncut =
      (s : State T) (ds es : List (List ℕ)) (ms : List Message) → Listing ms → Cut ds ms → Cut es ms →
      (reply fed s ds ≡ reply fed s es) × (over (reply fed s ds).stage ≡ true)
