-- What a reply comes to, message by message, over any table that takes rows.
use Rattle.std.specs.Prelude.{ℕ, Bool, true, false, cond, List, length, Ok, Err, fold, Result, ◌==◌, bit_and, nat_lt}
use Rattle.reader.specs.Walks.{Stop, clean, broken, Reading}
use Rattle.records.specs.Layouts.{Message}
use Rattle.reader.specs.Datagrams.{messages}
use Rattle.reader.specs.declared.fault.MessageFault.{MessageFault}
use Rattle.reader.specs.declared.fault.MessageFault.TheVariants.{Long}
use Rattle.reader.specs.declared.fault.TurnFault.{TurnFault}
use Rattle.reader.specs.declared.fault.TurnFault.TheVariants.{Message as InMessage, Early}
use Rattle.reader.specs.declared.stage.Stage.{Stage}
use Rattle.reader.specs.declared.stage.Stage.TheVariants.{Going, Ended, Faulted}
use Rattle.reader.specs.declared.class.Class.{Class}
use Rattle.reader.specs.declared.class.Class.TheVariants.{Refused, Done, Filter, Passed}
use Rattle.reader.specs.Classes.{class_of}

-- a reply so far: how far it has come, and the table
pub record State (T : Type 0) : Type 0 where
  pub stage : Stage
  pub table : T

-- what a call that feeds a row answers, and what it leaves of the table t
abbrev pub said : {T : Type 0} → Result T TurnFault → Result (Unit {0}) TurnFault
said (Ok u) = Ok tt
said (Err f) = Err f

abbrev pub kept : {T : Type 0} → T → Result T TurnFault → T
kept t (Ok u) = u
kept t (Err f) = t

-- a message with NLM_F_MULTI
abbrev pub multi : Message → Bool
multi m = bit_and m.flags 2 == 2

-- the last message bears it; true where there is none
abbrev pub last_multi : Bool → List Message → Bool
last_multi = fold (λ _ m. multi m)

-- the end of a datagram, whose last message bears NLM_F_MULTI or not
abbrev pub at_end : Stage → Bool → Stop MessageFault → Stage
at_end Going last clean = cond last Going Ended
at_end Going last (broken f) = Faulted (InMessage f)
at_end Ended last stop = Ended
at_end (Faulted f) last stop = Faulted f

-- what a walk over a datagram answers: whether the last message bears NLM_F_MULTI, or the fault at which it stopped
abbrev pub closing : Stage → Result Bool MessageFault → Stage
closing stage (Ok last) = at_end stage last clean
closing stage (Err f) = at_end stage true (broken f)

module _ {T : Type 0} where
  abbrev pub at : Stage → T → State T
  at x t = record { stage = x; table = t }

  abbrev pub closed : State T → Result Bool MessageFault → State T
  closed s r = at (closing s.stage r) s.table

  abbrev pub row : T → Result T TurnFault → State T
  row t (Ok u) = at Going u
  row t (Err f) = at (Faulted f) t

  abbrev pub too_long : State T → ℕ → State T
  too_long s n = at (at_end s.stage true (broken (Long n))) s.table

  abbrev pub ending : State T → Bool → Stop MessageFault → State T
  ending s last stop = at (at_end s.stage last stop) s.table

module _ {T : Type 0} (fed : T → List ℕ → Result T TurnFault) where
  -- one message, by its class, with this payload
  abbrev pub heeded : Stage → T → Class → List ℕ → State T
  heeded Going t (Refused f) p = at (Faulted (InMessage f)) t
  heeded Going t Done p = at Ended t
  heeded Going t Filter p = row t (fed t p)
  heeded Going t Passed p = at Going t
  heeded Ended t c p = at Ended t
  heeded (Faulted f) t c p = at (Faulted f) t

  abbrev pub step : State T → Message → State T
  step s m = heeded s.stage s.table (class_of m.kind m.payload) m.payload

  -- from the state s on, where the message before bore NLM_F_MULTI or not
  abbrev pub onwards : State T → Bool → Reading Message MessageFault → State T
  onwards s last r = ending (fold step s r.found) (last_multi last r.found) r.stop

  -- one datagram: 13 where it is too long, whatever it holds; a reply that has ended takes none
  abbrev pub took : State T → List ℕ → State T
  took s b = cond (nat_lt 4096 (length b)) (too_long s (length b)) (onwards s true (messages b))

  -- a reply, datagram by datagram
  abbrev pub reply : State T → List (List ℕ) → State T
  reply = fold took

-- whether a reply has come to its end or a fault
abbrev pub over : Stage → Bool
over Going = false
over Ended = true
over (Faulted f) = true

-- what a turn that is closed as read answers
abbrev pub read_of : Stage → ℕ → Result ℕ TurnFault
read_of Going n = Err Early
read_of Ended n = Ok n
read_of (Faulted f) n = Err f
