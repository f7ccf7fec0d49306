-- The number of each fault, and the values that it carries.
use Rattle.std.specs.Prelude.{ℕ, List, [], ◌∷◌, ℤ, Some, None, Option}
use Rattle.reader.specs.declared.fault.AttributeFault.{AttributeFault}
use Rattle.reader.specs.declared.fault.AttributeFault.TheVariants.{Cut, Length, Past, Text}
use Rattle.reader.specs.declared.fault.MessageFault.{MessageFault}
use Rattle.reader.specs.declared.fault.MessageFault.TheVariants.{Long, Cut as CutMessage, Length as MessageLength, ErrorShort, LowestStatus, Kernel, Attribute}
use Rattle.reader.specs.declared.fault.TurnFault.{TurnFault}
use Rattle.reader.specs.declared.fault.TurnFault.TheVariants.{Early, Message, FilterShort, NoFilter, SeveralFilters, TooManyMatches}

-- its number; the kernel's errno, if it is one; and its sizes in the order in which the fault has them
pub record Refusal : Type 0 where
  pub number : ℕ
  pub errno : Option ℤ
  pub sizes : List ℕ

abbrev plain : ℕ → List ℕ → Refusal
plain n sizes = record { number = n; errno = None; sizes = sizes }

abbrev pub attribute_refusal : AttributeFault → Refusal
attribute_refusal (Cut size expected) = plain 19 (size ∷ expected ∷ [])
attribute_refusal (Length len) = plain 20 (len ∷ [])
attribute_refusal (Past size expected) = plain 21 (size ∷ expected ∷ [])
attribute_refusal Text = plain 22 []

abbrev pub message_refusal : MessageFault → Refusal
message_refusal (Long size) = plain 13 (size ∷ [])
message_refusal (CutMessage size) = plain 14 (size ∷ [])
message_refusal (MessageLength len left) = plain 15 (len ∷ left ∷ [])
message_refusal (ErrorShort size) = plain 16 (size ∷ [])
message_refusal LowestStatus = plain 17 []
message_refusal (Kernel errno) = record { number = 18; errno = Some errno; sizes = [] }
message_refusal (Attribute f) = attribute_refusal f

abbrev pub turn_refusal : TurnFault → Refusal
turn_refusal Early = plain 12 []
turn_refusal (Message f) = message_refusal f
turn_refusal (FilterShort size) = plain 23 (size ∷ [])
turn_refusal NoFilter = plain 24 []
turn_refusal SeveralFilters = plain 25 []
turn_refusal TooManyMatches = plain 27 []
