-- What a queue holds.
use Rattle.std.specs.Prelude.{ℕ, List}
use Rattle.capped.specs.Values.{values}
use Rattle.queue.specs.declared.queue.Queue.{Queue}
use Rattle.queue.specs.Cuts.{cut}

-- the datagrams that wait, first first
abbrev pub waiting : Queue → List (List ℕ)
waiting q = cut (values q.lens) (values q.bytes)
