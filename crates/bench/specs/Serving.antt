-- What the bench host does about a request.
use Rattle.std.specs.Prelude.{ℕ, Bool, cond, ◌&&◌, List, [], ◌∷◌, ◌++◌, map, ℤ, pos, Some, Ok, Err, Result, ◌==◌}
use Rattle.requests.specs.Asks.{Key, Ask, set_xdp, add_clsact, attach, replace, remove, list}
use Rattle.queue.specs.Cuts.{joined}
use Rattle.hosts.specs.Meaning.{Filter, bpf}
use Rattle.hosts.specs.Rules.{without, renamed, under}
use Rattle.filters.specs.Fitting.{filter_with}
use Rattle.filters.specs.Statuses.{status}
use Rattle.filters.specs.declared.refusal.Refusal.{Refusal}
use Rattle.filters.specs.Keys.{with_handle, lowest_free, admitted, renaming, removing}
use Rattle.bench.specs.Replies.{told_bytes, answer_bytes, done_bytes, pages}

-- the reply, datagram by datagram, and the filters then
pub record Outcome : Type 0 where
  pub reply : List (List ℕ)
  pub filters : List Filter

-- an answer alone; 0 acknowledges
abbrev pub answered : List ℕ → ℤ → List Filter → Outcome
answered q status fs = record { reply = answer_bytes q status ∷ []; filters = fs }

-- an echo with these flags, and an acknowledgement
abbrev pub echoed : ℕ → Filter → List ℕ → List Filter → Outcome
echoed flags f q fs = record { reply = told_bytes flags f ∷ answer_bytes q (pos 0) ∷ []; filters = fs }

-- priority 49152 where none is asked for, and the lowest handle that is free
abbrev pub prioritized : Key → Key
prioritized k = record { interface = k.interface; parent = k.parent; priority = cond (k.priority == 0) 49152 k.priority; handle = k.handle }

abbrev pub granted : Key → List Filter → Key
granted k fs = cond (k.handle == 0) (with_handle (prioritized k) (lowest_free (prioritized k) fs)) (prioritized k)

abbrev pub named : Key → List ℕ → Filter
named k name = filter_with k bpf (Some name)

abbrev pub attaching : Result (Unit {0}) Refusal → Filter → List ℕ → List Filter → Outcome
attaching (Ok u) f q fs = echoed 0x060D f q (fs ++ (f ∷ []))
attaching (Err r) f q fs = answered q (status r) fs

abbrev pub replacing : Result (Unit {0}) Refusal → Key → List ℕ → List ℕ → List Filter → Outcome
replacing (Ok u) k name q fs = echoed 0x000D (named k name) q (map (renamed k name) fs)
replacing (Err r) k name q fs = answered q (status r) fs

abbrev pub status_of : Result (Unit {0}) Refusal → ℤ
status_of (Ok u) = pos 0
status_of (Err r) = status r

abbrev pub listing : ℕ → ℕ → List Filter → List (List ℕ)
listing interface parent fs = pages (map (told_bytes 2) (under interface parent fs)) ++ (done_bytes ∷ [])

-- the request q asks for x
abbrev pub served : List Filter → List ℕ → Ask → Outcome
served fs q (set_xdp i d e m) = answered q (pos 0) fs
served fs q (add_clsact i) = answered q (pos 0) fs
served fs q (attach k p) = attaching (admitted (granted k fs) fs) (named (granted k fs) p.name) q fs
served fs q (replace k p) = replacing (renaming k p.name fs) k p.name q fs
served fs q (remove k) = answered q (status_of (removing k fs)) (without k fs)
served fs q (list i p) = record { reply = listing i p fs; filters = fs }

-- one filter of a listing, put behind the datagrams before it
abbrev pub is_under : ℕ → ℕ → Filter → Bool
is_under interface parent f = f.key.interface == interface && f.key.parent == parent

abbrev pub listed_one : ℕ → ℕ → Filter → List (List ℕ) → List (List ℕ)
listed_one interface parent f ws = cond (is_under interface parent f) (joined ws (told_bytes 2 f)) ws
