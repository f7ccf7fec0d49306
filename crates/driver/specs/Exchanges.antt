-- One request and its reply: what the host did, step by step, and what it came to.
use Rattle.std.specs.Prelude.{◌≡◌, ℕ, ◌+◌, ◌<◌, true, false, List, [], ◌∷◌, length, ℤ, Ok, Err, Result}
use Rattle.reader.specs.Replies.{State, at, took, over}
use Rattle.reader.specs.declared.fault.TurnFault.{TurnFault}
use Rattle.reader.specs.declared.fault.TurnFault.TheVariants.{Early}
use Rattle.reader.specs.declared.stage.Stage.{Stage}
use Rattle.reader.specs.declared.stage.Stage.TheVariants.{Going, Ended, Faulted}
use Rattle.hosts.specs.Events.{Event, opened, sent, received, datagram, failed, laid}
use Rattle.driver.specs.declared.fault.ExchangeFault.{ExchangeFault}
use Rattle.driver.specs.declared.fault.ExchangeFault.TheVariants.{Open, Send, Receive, Turn}

-- how it closed: open or send refused, a receive failed, or no more was received
pub data Close : Type 0 where
  unopened : ℤ → Close
  unsent : ℤ → Close
  lost : ℤ → Close
  stopped : Close

-- a reply that stopped in this stage: 12 where it had not ended
abbrev pub read_as : Stage → Result (Unit {0}) ExchangeFault
read_as Going = Err (Turn Early)
read_as Ended = Ok tt
read_as (Faulted f) = Err (Turn f)

abbrev pub closing : Close → Stage → Result (Unit {0}) ExchangeFault
closing (unopened e) stage = Err (Open e)
closing (unsent e) stage = Err (Send e)
closing (lost e) stage = Err (Receive e)
closing stopped stage = read_as stage

-- the buffer once the datagrams are laid over its front in turn
abbrev pub overlay : List ℕ → List (List ℕ) → List ℕ
overlay b [] = b
overlay b (d ∷ ds) = overlay (laid b (datagram d)) ds

-- the host did so; a filter message takes a table so; receive has a buffer of so many bytes
module _ {H T : Type 0} (did : H → Event → H → Type 0) (fed : T → List ℕ → Result T TurnFault) (size : ℕ) where
  -- i datagrams came to the state s, and the host is h: how it closes, in which state, and what the host is then.
  -- It goes on exactly as long as the reply has not ended and fewer than 4,096 datagrams came
  pub data Receives : ℕ → State T → H → Close → State T → H → Type 0 where
    fails : {i : ℕ} {s : State T} {h k : H} {e : ℤ} → i < 4096 → over s.stage ≡ false → did h (received size (failed e)) k → Receives i s h (lost e) s k
    more : {i : ℕ} {s t : State T} {h j k : H} {d : List ℕ} {c : Close} →
        i < 4096 → over s.stage ≡ false → did h (received size (datagram d)) j → Receives (i + 1) (took fed s d) j c t k → Receives i s h c t k
    ended : {i : ℕ} {s : State T} {h : H} → over s.stage ≡ true → Receives i s h stopped s h
    full : {s : State T} {h : H} → over s.stage ≡ false → Receives 4096 s h stopped s h

  -- the request q was asked of the host h
  pub data Asked (q : List ℕ) (s : State T) (h : H) : Close → State T → H → Type 0 where
    not_opened : {k : H} {e : ℤ} → did h (opened (Err e)) k → Asked q s h (unopened e) s k
    not_sent : {j k : H} {e : ℤ} → did h (opened (Ok tt)) j → did j (sent q (Err e)) k → Asked q s h (unsent e) s k
    replied : {i j k : H} {t : State T} {c : Close} → did h (opened (Ok tt)) i → did i (sent q (Ok tt)) j → Receives 0 s j c t k → Asked q s h c t k

  -- the datagrams that came
  abbrev pub came : {i : ℕ} {s : State T} {h : H} {c : Close} {t : State T} {k : H} → Receives i s h c t k → List (List ℕ)
  came (fails l o p) = []
  came (more {d} l o p r) = d ∷ came r
  came (ended o) = []
  came (full o) = []

  abbrev pub came_of : {q : List ℕ} {s : State T} {h : H} {c : Close} {t : State T} {k : H} → Asked q s h c t k → List (List ℕ)
  came_of (not_opened o) = []
  came_of (not_sent o p) = []
  came_of (replied o p r) = came r

  -- so it was received: n datagrams came, and the buffer was b and is b'
  pub record Collected (s : State T) (h : H) (b : List ℕ) (c : Close) (t : State T) (n : ℕ) (k : H) (b' : List ℕ) : Type 0 where
    pub trace : Receives 0 s h c t k
    pub laid : b' ≡ overlay b (came trace)
    pub count : n ≡ length (came trace)

  -- so it was asked
  pub record Exchanged (q : List ℕ) (s : State T) (h : H) (b : List ℕ) (c : Close) (t : State T) (n : ℕ) (k : H) (b' : List ℕ) : Type 0 where
    pub trace : Asked q s h c t k
    pub laid : b' ≡ overlay b (came_of trace)
    pub count : n ≡ length (came_of trace)

module _ {H : Type 0} (did : H → Event → H → Type 0) where
  -- h was opened and sent q, and what it answered
  abbrev pub Sends : List ℕ → H → Result (Unit {0}) ExchangeFault → H → Type 0
  Sends q h (Ok u) k = (j : H) × did h (opened (Ok tt)) j × did j (sent q (Ok tt)) k
  Sends q h (Err (Open e)) k = did h (opened (Err e)) k
  Sends q h (Err (Send e)) k = (j : H) × did h (opened (Ok tt)) j × did j (sent q (Err e)) k
  Sends q h (Err (Receive e)) k = ⊥
  Sends q h (Err (Turn f)) k = ⊥

module _ {H T : Type 0} (did : H → Event → H → Type 0) (fed : T → List ℕ → Result T TurnFault) where
  -- the reply from the state s on, with a buffer that held b: there is what was received, and all else is told by it
  pub record Replied (s : State T) (h : H) (b : List ℕ) (r : Result (Unit {0}) ExchangeFault) (u' : T) (n : ℕ) (k : H) (b' : List ℕ) : Type 0 where
    pub close : Close
    pub final : State T
    pub collected : Collected did fed (length b) s h b close final n k b'
    pub closes : r ≡ closing close final.stage
    pub table : u' ≡ final.table

  -- the request q was asked of h, with the table u, and a buffer that held b: there is what the host did, and all else is told by it
  pub record Told (q : List ℕ) (u : T) (h : H) (b : List ℕ) (r : Result (Unit {0}) ExchangeFault) (u' : T) (n : ℕ) (k : H) (b' : List ℕ) : Type 0 where
    pub close : Close
    pub final : State T
    pub asked : Exchanged did fed (length b) q (at Going u) h b close final n k b'
    pub closes : r ≡ closing close final.stage
    pub table : u' ≡ final.table
