-- A turn that goes on.
use Rattle.reader.specs.declared.stage.Stage.{Stage}
use Rattle.reader.specs.declared.turn.Turn.{Turn}

-- the turn at another stage, all else as it was
abbrev pub moved : Turn → Stage → Turn
moved t x = record t { stage = x }
