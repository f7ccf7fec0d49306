use Rattle.std.proofs.Common.{refl}
use Rattle.std.proofs.lemmas.Slice.Eq.{slice_eq-Decides}
use Rattle.std.proofs.lemmas.Bool.Decides.{Decides-eqb}
use Rattle.requests.specs.Asks.{asks}
use Rattle.requests.proofs.Finding.{not_none, kept}
use Rattle.requests.proofs.request.Request.read.Goals as goal

pub returns-in_err-n : goal.returns-in_err-n
returns-in_err-n c =
    rw c.from_residual-in_err-n.ensures
    (record { some = tt; each = λ x w. absurd (not_none c.args.bytes.now (asks c.in_ok-request.request) c.in_ok-request.ensures.0 c.write.result c.in_err-n.ensures.value c.write.ensures.written.result x w) })

pub returns : goal.returns
returns c =
    let q = c.in_ok-request.request in
    let k = kept c.args.bytes.now (asks q) c.in_ok-request.ensures.0 c.write.result c.in_ok-n.n c.in_ok-n.ensures.value _ _ c.write.ensures.written.result c.write.ensures.written.after q refl c.in_ok-request.ensures.1 c.eq.result
    (slice_eq-Decides Decides-eqb _ _ _ c.eq.ensures) in
    rw c.then_some.ensures (record { some = k.0; each = k.1 })
