-- Going through the attributes of a row in turn, to its end or the first fault.
use Rattle.std.specs.Prelude.{ℕ, List, [], ◌∷◌, Ok, Err, Result}
use Rattle.records.specs.Layouts.{Attribute}
use Rattle.reader.specs.Walks.{Stop, clean, broken, Reading}
use Rattle.reader.specs.Rows.{attributes}
use Rattle.reader.specs.declared.fault.AttributeFault.{AttributeFault}

abbrev pub then : {A B E : Type 0} → Result A E → (A → Result B E) → Result B E
then (Ok x) f = f x
then (Err e) f = Err e

-- what a call's answer and the value that it leaves say together: the value, or the fault
abbrev pub told : {S E : Type 0} → Result (Unit {0}) E → S → Result S E
told (Ok u) s = Ok s
told (Err e) s = Err e

module _ {S : Type 0} (met : S → Attribute → Result S AttributeFault) where
  abbrev pub stopped : S → Stop AttributeFault → Result S AttributeFault
  stopped s clean = Ok s
  stopped s (broken f) = Err f

  abbrev pub visited : S → List Attribute → Stop AttributeFault → Result S AttributeFault
  visited s [] stop = stopped s stop
  visited s (a ∷ more) stop = then (met s a) (λ t. visited t more stop)

  -- each attribute of a reading in turn, and then how it stopped
  abbrev pub throughout : S → Reading Attribute AttributeFault → Result S AttributeFault
  throughout s r = visited s r.found r.stop

  -- a whole row
  abbrev pub through : S → List ℕ → Result S AttributeFault
  through s row = throughout s (attributes row)
