-- Keys that are taken, and the lowest handle that is free.
use Rattle.std.specs.Prelude.{ℕ, ◌+◌, Bool, false, cond, ◌&&◌, ◌||◌, List, [], ◌∷◌, ◌++◌, map, length, Some, None, Ok, Err, Option, Result, nat_le}
use Rattle.std.specs.List.{range_with_len, prefix_len}
use Rattle.std.specs.Str.{bytes_eq}
use Rattle.requests.specs.Asks.{Key}
use Rattle.requests.specs.Refusals.{name_fault}
use Rattle.hosts.specs.Meaning.{Filter, bpf}
use Rattle.hosts.specs.Rules.{same_key, renamed}
use Rattle.keyed.specs.Keyed.{taken as taken_by, distinct as distinct_by}
use Rattle.keyed.specs.Rows.{found}
use Rattle.keyed.specs.declared.table.Refused.{Refused}
use Rattle.keyed.specs.declared.table.Refused.TheVariants.{Taken, Full}
use Rattle.filters.specs.Fitting.{passes}
use Rattle.filters.specs.declared.refusal.Refusal.{Refusal}
use Rattle.filters.specs.declared.refusal.Refusal.TheVariants.{NoEntry, Exists, Invalid, NoSpace}

abbrev pub named : Filter → List ℕ → Filter
named f name = record { key = f.key; kind = f.kind; name = Some name }

-- a filter has this key
abbrev pub taken : Key → List Filter → Bool
taken = taken_by (λ f. f.key)

-- no two have the same
abbrev pub distinct : List Filter → Bool
distinct = distinct_by (λ f. f.key)

-- a bpf filter has this key
abbrev pub is_bpf : Key → List Filter → Bool
is_bpf k [] = false
is_bpf k (f ∷ fs) = (same_key k f.key && bytes_eq f.kind bpf) || is_bpf k fs

-- that filter, if there is one
abbrev pub only_bpf : Option Filter → Option Filter
only_bpf None = None
only_bpf (Some f) = cond (bytes_eq f.kind bpf) (Some f) None

abbrev pub bpf_of : Key → List Filter → Option Filter
bpf_of k fs = only_bpf (found (λ f. f.key) k fs)

abbrev pub with_handle : Key → ℕ → Key
with_handle k h = record { interface = k.interface; parent = k.parent; priority = k.priority; handle = h }

-- the lowest handle from 1 on whose key is free, among 1 to 33: 32 filters take at most 32
abbrev pub lowest_free : Key → List Filter → ℕ
lowest_free k fs = 1 + prefix_len (λ h. taken (with_handle k h) fs) (range_with_len 1 32)

-- what the table of rows refuses, as what this one does
abbrev pub refusal_of : Refused → Refusal
refusal_of Taken = Exists
refusal_of Full = NoSpace

-- whether one more may stand under this key
abbrev pub admitted : Key → List Filter → Result (Unit {0}) Refusal
admitted k fs = cond (taken k fs) (Err Exists) (cond (nat_le 32 (length fs)) (Err NoSpace) (Ok tt))

-- one more at the end, where it may stand
abbrev pub added : Result (Unit {0}) Refusal → Filter → List Filter → List Filter
added (Ok u) f fs = fs ++ (f ∷ [])
added (Err e) f fs = fs

-- whether that of this key can be renamed
abbrev pub renaming : Key → List ℕ → List Filter → Result (Unit {0}) Refusal
renaming k name fs = cond (passes (name_fault name)) (cond (is_bpf k fs) (Ok tt) (Err NoEntry)) (Err Invalid)

abbrev pub after_renaming : Result (Unit {0}) Refusal → Key → List ℕ → List Filter → List Filter
after_renaming (Ok u) k name fs = map (renamed k name) fs
after_renaming (Err e) k name fs = fs

-- whether there is one to remove
abbrev pub removing : Key → List Filter → Result (Unit {0}) Refusal
removing k fs = cond (taken k fs) (Ok tt) (Err NoEntry)
