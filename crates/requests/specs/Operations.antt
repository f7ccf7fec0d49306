-- What a traffic control request does, as the builder holds it.
use Rattle.std.specs.Prelude.{ℕ, List, [], None, Option}
use Rattle.requests.specs.declared.fault.ArgumentFault.{ArgumentFault}
use Rattle.requests.specs.declared.tc.TcOperation.{TcOperation}
use Rattle.requests.specs.declared.tc.TcOperation.TheVariants.{DeleteFilter, GetFilter, Clsact, NewFilter}
use Rattle.requests.specs.Table.{Item, clsact_items, bpf_items}
use Rattle.requests.specs.Refusals.{name_fault}

-- its message type
abbrev pub operation_type : {C : Type 0} → TcOperation C → ℕ
operation_type DeleteFilter = 45
operation_type GetFilter = 46
operation_type Clsact = 36
operation_type (NewFilter bpf) = 44

-- its attributes, where `value` reads the class, and the program has this name
abbrev pub operation_items : {C : Type 0} → (C → Option ℕ) → TcOperation C → List ℕ → List Item
operation_items value DeleteFilter name = []
operation_items value GetFilter name = []
operation_items value Clsact name = clsact_items
operation_items value (NewFilter bpf) name = bpf_items (value bpf.classid) bpf.fd name bpf.flags

-- only a filter with a program has a name
abbrev pub operation_fault : {C : Type 0} → TcOperation C → List ℕ → Option ArgumentFault
operation_fault DeleteFilter name = None
operation_fault GetFilter name = None
operation_fault Clsact name = None
operation_fault (NewFilter bpf) name = name_fault name
