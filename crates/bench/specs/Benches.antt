-- What a bench host means.
use Rattle.queue.specs.Waiting.{waiting}
use Rattle.filters.specs.Held.{held}
use Rattle.bench.specs.Calls.{State, state}
use Rattle.bench.specs.declared.bench.Bench.{Bench}

abbrev pub state_of : Bench → State
state_of b = state (held b.filters) (waiting b.queue)
