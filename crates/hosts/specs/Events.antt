-- The calls of a host, each with its arguments and its answer.
use Rattle.std.specs.Prelude.{ℕ, ◌≤◌, List, ◌++◌, length, take, drop, ℤ, Ok, Err, Result}

-- an errno where it refuses
abbrev pub Answer : Type 0
Answer = Result (Unit {0}) ℤ

-- what a receive gives: a datagram, or an errno
pub data Got : Type 0 where
  datagram : List ℕ → Got
  failed : ℤ → Got

-- a receive is told with the size of its buffer
pub data Event : Type 0 where
  opened : Answer → Event
  sent : List ℕ → Answer → Event
  received : ℕ → Got → Event

-- what a receive gave, from its answer and the buffer that it leaves
abbrev pub gotten : Result ℕ ℤ → List ℕ → Got
gotten (Ok n) b = datagram (take n b)
gotten (Err e) b = failed e

-- the buffer b once what came is laid over its front
abbrev pub laid : List ℕ → Got → List ℕ
laid b (datagram d) = d ++ drop (length d) b
laid b (failed e) = b

-- what was handed out lies within the buffer
abbrev pub Sized : Result ℕ ℤ → List ℕ → Type 0
Sized (Ok n) b = n ≤ length b
Sized (Err e) b = Unit {0}
