-- What is known of the arguments of a request. Assumes nothing.
use Rattle.std.specs.Prelude.{◌≡◌, ℕ, ◌≤◌, List, length, Some, None, Option}
use Rattle.std.proofs.Common.{sym, ap, ◌∙◌, arith}
use Rattle.requests.specs.Asks.{Key, Program, Ask, set_xdp, add_clsact, attach, replace, remove, list}
use Rattle.requests.specs.Back.{Writes}
use Rattle.requests.specs.Bytes.{request_length}
use Rattle.requests.specs.FilterMessages.{filter_fault}
use Rattle.requests.specs.Refusals.{argument_fault, first, interface_fault, name_fault, program_fault}
use Rattle.requests.specs.declared.fault.ArgumentFault.{ArgumentFault}
use Rattle.requests.proofs.Standing.{request_length_lem, first_none, program_name}
use Rattle.hosts.specs.Meaning.{bpf}

long : (x : Ask) → 16 ≤ request_length x
long (set_xdp i d e m) = omega arith
long (add_clsact i) = omega arith
long (attach k p) = omega arith
long (replace k p) = omega arith
long (remove k) = omega arith
long (list i p) = omega arith

pub request_long : (x : Ask) (q : List ℕ) → Writes x q → 16 ≤ length q
request_long x q w = omega (arith, ap length w.bytes, request_length_lem x, long x)

pub attach_fault : (x : Ask) (k : Key) (p : Program) (q : List ℕ) → x ≡ attach k p → Writes x q → filter_fault k bpf (Some p.name) ≡ None
unfolding argument_fault
attach_fault x k p q e w =
    let f : program_fault k p ≡ None = sym (ap argument_fault e) ∙ w.sound in
    let i = (first_none (interface_fault k.interface) _ f).0 in
    ap (λ (y : Option ArgumentFault). first y (name_fault p.name)) i ∙ program_name k p f

pub replace_fault : (x : Ask) (k : Key) (p : Program) (q : List ℕ) → x ≡ replace k p → Writes x q → name_fault p.name ≡ None
unfolding argument_fault
replace_fault x k p q e w = program_name k p (sym (ap argument_fault e) ∙ w.sound)
