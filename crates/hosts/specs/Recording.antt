-- A recording that is played to a session: what it answers to each call, and what is left of it.
use Rattle.std.specs.Prelude.{◌≡◌, ℕ, Bool, false, cond, ◌⊎◌, List, [], ◌∷◌, ◌++◌, map, length, drop, ℤ, pos, Some, None, Ok, Err, vec_items, Option, Result, nat_lt}
use Rattle.std.specs.Global.{Vec}
use Rattle.hosts.specs.Events.{Answer, Event, opened, sent, received, Got, datagram, failed}
use Rattle.hosts.specs.declared.recorded.Refusal.{Refusal}
use Rattle.hosts.specs.declared.recorded.Refusal.TheVariants.{Open, Send}

-- one exchange: open is refused, send is refused, or this is given to one receive after the other
pub data Part : Type 0 where
  open_refused : ℤ → Part
  send_refused : ℤ → Part
  gives : List Got → Part

-- the exchanges that are left; of the one that is under way, what is still to be received and whether send is refused; what was sent
pub record Recording : Type 0 where
  pub exchanges : List Part
  pub given : List Got
  pub refusal : Option ℤ
  pub requests : List (List ℕ)

-- a recording of which nothing was played
abbrev pub unplayed : List Part → Recording
unplayed ps = record { exchanges = ps; given = []; refusal = None; requests = [] }

-- the exchange that open takes up; where none is left, one that gives nothing
abbrev pub next : List Part → Part
next [] = gives []
next (p ∷ ps) = p

abbrev pub open_answer : Part → Answer
open_answer (open_refused e) = Err e
open_answer (send_refused e) = Ok tt
open_answer (gives gs) = Ok tt

abbrev pub given_by : Part → List Got
given_by (open_refused e) = []
given_by (send_refused e) = []
given_by (gives gs) = gs

abbrev pub refusal_by : Part → Option ℤ
refusal_by (open_refused e) = None
refusal_by (send_refused e) = Some e
refusal_by (gives gs) = None

-- once p is taken up; what was left of the exchange before is dropped
abbrev pub begun : Part → Recording → Recording
begun p s = record { exchanges = drop 1 s.exchanges; given = given_by p; refusal = refusal_by p; requests = s.requests }

abbrev pub send_answer : Option ℤ → Answer
send_answer None = Ok tt
send_answer (Some e) = Err e

-- once q was sent
abbrev pub kept : List ℕ → Recording → Recording
kept q s = record { exchanges = s.exchanges; given = s.given; refusal = s.refusal; requests = s.requests ++ (q ∷ []) }

-- what comes first, 11 where nothing is left
abbrev pub first : List Got → Got
first [] = failed (pos 11)
first (g ∷ gs) = g

abbrev pub longer : ℕ → Got → Bool
longer n (datagram d) = nat_lt n (length d)
longer n (failed e) = false

-- what a receive into n bytes gives, 22 where a datagram is too long
abbrev pub came : ℕ → List Got → Got
came n gs = cond (longer n (first gs)) (failed (pos 22)) (first gs)

-- what is still to be received after it; a datagram that is too long stays
abbrev pub rest : ℕ → List Got → List Got
rest n gs = cond (longer n (first gs)) gs (drop 1 gs)

abbrev pub taken : ℕ → Recording → Recording
taken n s = record { exchanges = s.exchanges; given = rest n s.given; refusal = s.refusal; requests = s.requests }

-- what a call answers, and the recording after it. A send without memory to keep the request answers 12 and changes nothing
abbrev pub Plays : Recording → Event → Recording → Type 0
Plays s (opened r) t = (r ≡ open_answer (next s.exchanges)) × (t ≡ begun (next s.exchanges) s)
Plays s (sent q r) t = ((r ≡ send_answer s.refusal) × (t ≡ kept q s)) ⊎ ((r ≡ Err (pos 12)) × (t ≡ s))
Plays s (received n g) t = (g ≡ came n s.given) × (t ≡ taken n s)

abbrev pub got_of : Result (Vec ℕ) ℤ → Got
got_of (Ok bytes) = datagram (vec_items bytes)
got_of (Err errno) = failed errno

abbrev pub part_of : Result (Vec (Result (Vec ℕ) ℤ)) Refusal → Part
part_of (Ok given) = gives (map got_of (vec_items given))
part_of (Err (Open errno)) = open_refused errno
part_of (Err (Send errno)) = send_refused errno
