-- Reading a row of attributes.
use Rattle.std.specs.Prelude.{ℕ, ◌-◌, cond, List, length, take, drop, ◌==◌, bit_and, nat_lt}
use Rattle.records.specs.Words.{le2}
use Rattle.records.specs.Align.{padded}
use Rattle.records.specs.Layouts.{Attribute}
use Rattle.reader.specs.Walks.{Step, end, fault, item, Reading, reading}
use Rattle.reader.specs.declared.fault.AttributeFault.{AttributeFault}
use Rattle.reader.specs.declared.fault.AttributeFault.TheVariants.{Cut, Length, Past}
use Rattle.reader.specs.declared.attribute.NlAttr.{NlAttr}

-- the step at a row of at least 4 bytes whose first attribute says the length n: 20 and 21
abbrev pub attribute_at : List ℕ → ℕ → Step Attribute AttributeFault
attribute_at b n =
    cond (nat_lt n 4) (fault (Length n))
    (cond (nat_lt (length b) (padded n)) (fault (Past (length b - 4) (padded n - 4)))
    (item (record { kind = le2 b 2; payload = take (n - 4) (drop 4 b) }) (drop (padded n) b)))

-- one attribute off the front of a row: 19 where 1 to 3 bytes are left
abbrev pub attribute_step : List ℕ → Step Attribute AttributeFault
attribute_step b =
    cond (length b == 0) end
    (cond (nat_lt (length b) 4) (fault (Cut (length b) 4))
    (attribute_at b (le2 b 0)))

-- the attributes of a row, to its end or its first fault
abbrev pub attributes : List ℕ → Reading Attribute AttributeFault
attributes = reading attribute_step

-- types are compared without their two flags
abbrev pub plain_kind : Attribute → ℕ
plain_kind a = bit_and a.kind 0x3FFF

-- an attribute as the code has it
abbrev pub attribute_of : NlAttr → Attribute
attribute_of a = record { kind = a.header.kind; payload = a.data.now }
