use Rattle.std.proofs.Common.{ap}
use Rattle.requests.specs.Asks.{asks, key_of}
use Rattle.bench.specs.Asked.{request_long, attach_fault, replace_fault}
use Rattle.bench.proofs.bench.Bench.serve.Goals as goal

pub invariant_of-request : goal.invariant_of-request
invariant_of-request c = record { whole = request_long _ _ c.requires }

pub invariant_of-request-in-Attach : goal.invariant_of-request-in-Attach
invariant_of-request-in-Attach c = record { whole = request_long _ _ c.requires }

pub invariant_of-request-in-Replace : goal.invariant_of-request-in-Replace
invariant_of-request-in-Replace c = record { whole = request_long _ _ c.requires }

pub invariant_of-request-in-Remove : goal.invariant_of-request-in-Remove
invariant_of-request-in-Remove c = record { whole = request_long _ _ c.requires }

pub attach-requires : goal.attach-requires
attach-requires c = attach_fault _ (key_of c.in-Attach.key) _ _ (ap asks c.in-Attach.is) c.requires

pub replace-requires : goal.replace-requires
replace-requires c = replace_fault _ (key_of c.in-Replace.key) _ _ (ap asks c.in-Replace.is) c.requires
