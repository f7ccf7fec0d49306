-- What a message is, by its type and its status.
use Rattle.std.specs.Prelude.{ℕ, cond, List, length, drop, ℤ, pos, negsuc, neg_ℤ, Some, None, Ok, Err, Option, Result, ◌==◌, int_lt, nat_lt}
use Rattle.std.specs.Int.{w32}
use Rattle.std.proofs.Common.{to_z}
use Rattle.records.specs.Words.{le4}
use Rattle.reader.specs.Visits.{through}
use Rattle.reader.specs.Names.{checked_text}
use Rattle.reader.specs.declared.fault.AttributeFault.{AttributeFault}
use Rattle.reader.specs.declared.fault.MessageFault.{MessageFault}
use Rattle.reader.specs.declared.fault.MessageFault.TheVariants.{ErrorShort, LowestStatus, Kernel, Attribute}
use Rattle.reader.specs.declared.class.Class.{Class}
use Rattle.reader.specs.declared.class.Class.TheVariants.{Refused, Done, Filter, Passed}

-- the first 4 bytes of a payload, as a signed number
abbrev pub status_of : List ℕ → Option ℤ
status_of p = cond (nat_lt (length p) 4) None (Some (to_z w32 (le4 p 0)))

-- after the texts: the kernel's refusal, by the negated status, or what is wrong with them
abbrev pub after_texts : ℤ → Result (Unit {0}) AttributeFault → MessageFault
after_texts z (Ok u) = Kernel (neg_ℤ z)
after_texts z (Err f) = Attribute f

-- a refusal by a status with this row behind it: the lowest status has no errno, and comes before the texts; else the whole row is walked first
abbrev pub refusal : ℤ → List ℕ → MessageFault
refusal z row = cond (int_lt z (negsuc 2147483646)) LowestStatus (after_texts z (through checked_text tt row))

-- an error message: a status of 0 is an acknowledgement; the attributes follow the status and the header that it answers
abbrev pub error_by : Option ℤ → List ℕ → Class
error_by None p = Passed
error_by (Some z) p = cond (int_lt z (pos 0)) (Refused (refusal z (drop 20 p))) (cond (int_lt (pos 0) z) (Refused (refusal z (drop 20 p))) Passed)

abbrev pub error_of : List ℕ → Class
error_of p = cond (nat_lt (length p) 20) (Refused (ErrorShort (length p))) (error_by (status_of p) p)

-- a DONE: the reply's end, unless its status is negative; the attributes follow the status
abbrev pub done_by : Option ℤ → List ℕ → Class
done_by None p = Done
done_by (Some z) p = cond (int_lt z (pos 0)) (Refused (refusal z (drop 4 p))) Done

-- message types: NLMSG_ERROR 2, NLMSG_DONE 3, RTM_NEWTFILTER 44; all others are passed over
abbrev pub class_of : ℕ → List ℕ → Class
class_of kind p = cond (kind == 2) (error_of p) (cond (kind == 3) (done_by (status_of p) p) (cond (kind == 44) Filter Passed))
