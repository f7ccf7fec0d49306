-- Where the texts of a refused reply stand.
use Rattle.std.specs.Prelude.{ℕ, cond, List, [], ◌∷◌, drop, ◌==◌}
use Rattle.records.specs.Layouts.{Message}
use Rattle.reader.specs.declared.class.Class.{Class}
use Rattle.reader.specs.declared.class.Class.TheVariants.{Refused, Done, Filter, Passed}
use Rattle.reader.specs.Classes.{class_of}

-- the attributes of a message that refuses: behind the status of a DONE, behind status and header of an error
abbrev pub row_behind : Message → List ℕ
row_behind m = cond (m.kind == 3) (drop 4 m.payload) (drop 20 m.payload)

abbrev pub on_class : Class → List ℕ → List ℕ → List ℕ
on_class (Refused f) row later = row
on_class Done row later = later
on_class Filter row later = later
on_class Passed row later = later

-- those of the first message that refuses, or none
abbrev pub refused_row : List Message → List ℕ
refused_row [] = []
refused_row (m ∷ more) = on_class (class_of m.kind m.payload) (row_behind m) (refused_row more)
