use Rattle.std.proofs.Common.{sym, ◌∙◌, arith, rules}
use Rattle.requests.proofs.Placing.{long_enough}
use Rattle.requests.proofs.Finding.{no_type, no_program}
use Rattle.requests.proofs.read.pick_traffic.Goals as goal

pub returns-in_err-header : goal.returns-in_err-header
returns-in_err-header c = rw c.from_residual.ensures (λ x w e. omega (arith, c.in_err-header.ensures, long_enough x c.args.bytes.now w))

pub returns-in_err-program-in-44 : goal.returns-in_err-program-in-44
returns-in_err-program-in-44 c =
    rw c.from_residual-in_err-program-in-44.ensures (λ x w e. no_program c.args.bytes.now c.in_err-program-in-44.ensures x w (sym e ∙ c.in-44.is))

pub returns-in_default : goal.returns-in_default
returns-in_default c = λ x w e. no_type c.args.kind c.requires (λ q. search rules) (λ q. search rules) (λ q. search rules) (λ q. search rules) x c.args.bytes.now w e
