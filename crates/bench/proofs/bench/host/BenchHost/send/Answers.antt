use Rattle.std.proofs.Common.{◌≡◌, Some, arith}
use Rattle.std.proofs.lemmas.Grind.{common_steps}
use Rattle.bench.specs.Calls.{request}
use Rattle.bench.proofs.bench.host.BenchHost.send.Goals as goal

pub returns : goal.returns
returns c =
    let read : c.read.result ≡ Some c.in_ok-asked.asked = grind (arith, common_steps) in
    request (rw read at c.read.ensures.some) c.serve.ensures
