-- The calls of the bench host: what each answers, and what stands and waits then.
use Rattle.std.specs.Prelude.{◌≡◌, ℕ, ◌+◌, Bool, cond, List, [], ◌∷◌, ◌++◌, drop, pos, Ok, Err, Result, nat_le}
use Rattle.requests.specs.Asks.{Key, Ask}
use Rattle.requests.specs.Back.{Writes}
use Rattle.queue.specs.Cuts.{bulk}
use Rattle.hosts.specs.Events.{Answer, Event, opened, sent, received, Got, datagram, failed}
use Rattle.hosts.specs.Meaning.{Filter}
use Rattle.filters.specs.Fitting.{is_filter, filter_with}
use Rattle.filters.specs.declared.refusal.Refusal.{Refusal}
use Rattle.filters.specs.declared.refusal.Refusal.TheVariants.{Invalid}
use Rattle.filters.specs.Keys.{admitted, added}
use Rattle.bench.specs.Serving.{Outcome, granted, served}

pub record State : Type 0 where
  pub filters : List Filter
  pub waiting : List (List ℕ)

abbrev pub state : List Filter → List (List ℕ) → State
state fs ws = record { filters = fs; waiting = ws }

-- 16,384 bytes may wait
abbrev pub fits : List (List ℕ) → List (List ℕ) → Bool
fits ws ds = nat_le (bulk ws + bulk ds) 16384

-- a reply alone, where the filters stay
abbrev pub replying : List (List ℕ) → List Filter → Outcome
replying ds fs = record { reply = ds; filters = fs }

-- a request that comes to this outcome: 105 where the reply has no room, and then nothing is altered
abbrev pub reply_answer : Outcome → State → Answer
reply_answer o s = cond (fits s.waiting o.reply) (Ok tt) (Err (pos 105))

abbrev pub reply_after : Outcome → State → State
reply_after o s = cond (fits s.waiting o.reply) (state o.filters (s.waiting ++ o.reply)) s

abbrev pub Replied : Outcome → State → Answer → State → Type 0
Replied o s r t = (r ≡ reply_answer o s) × (t ≡ reply_after o s)

-- the bytes q: 22 for what is no request
pub data Sends (s : State) (q : List ℕ) (r : Answer) (t : State) : Type 0 where
  stranger : ((x : Ask) → Writes x q → ⊥) → r ≡ Err (pos 22) → t ≡ s → Sends s q r t
  request : {x : Ask} → Writes x q → Replied (served s.filters q x) s r t → Sends s q r t

-- a receive: 11 where nothing waits
abbrev pub first : List (List ℕ) → Got
first [] = failed (pos 11)
first (d ∷ ds) = datagram d

-- 22 for a buffer of less than 4,096 bytes
abbrev pub came : ℕ → List (List ℕ) → Got
came n ws = cond (nat_le 4096 n) (first ws) (failed (pos 22))

abbrev pub rest : ℕ → List (List ℕ) → List (List ℕ)
rest n ws = cond (nat_le 4096 n) (drop 1 ws) ws

abbrev pub Calls : State → Event → State → Type 0
Calls s (opened r) t = (r ≡ Ok tt) × (t ≡ state s.filters [])
Calls s (sent q r) t = Sends s q r t
Calls s (received n g) t = (g ≡ came n s.waiting) × (t ≡ state s.filters (rest n s.waiting))

-- being given a filter, on the terms of an attach: its key, or why not
abbrev pub as_key : Key → Result (Unit {0}) Refusal → Result Key Refusal
as_key k (Ok u) = Ok k
as_key k (Err r) = Err r

abbrev pub admittance : Filter → List Filter → Result (Unit {0}) Refusal
admittance f fs = cond (is_filter f) (admitted f.key fs) (Err Invalid)

-- the filter that is asked for, under the key that it gets
abbrev pub under_key : Filter → List Filter → Filter
under_key f fs = filter_with (granted f.key fs) f.kind f.name

abbrev pub given : Filter → List Filter → Result Key Refusal
given f fs = as_key (granted f.key fs) (admittance (under_key f fs) fs)

abbrev pub with_given : Filter → List Filter → List Filter
with_given f fs = added (admittance (under_key f fs) fs) (under_key f fs) fs

abbrev pub mapped_ok : {X Y E : Type 0} → (X → Y) → Result X E → Result Y E
mapped_ok f (Ok x) = Ok (f x)
mapped_ok f (Err e) = Err e
