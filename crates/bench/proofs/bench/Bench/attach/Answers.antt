use Rattle.std.proofs.Common.{◌≡◌, [], ◌∷◌, ◌++◌, Ok, Err, sym, refl, ap, ◌∙◌}
use Rattle.std.proofs.lemmas.Result.{err_from_is_err_and}
use Rattle.requests.specs.Asks.{Key, key_of}
use Rattle.filters.specs.Fitting.{is_filter}
use Rattle.filters.specs.Held.{held}
use Rattle.filters.specs.Rows.{meaning}
use Rattle.bench.specs.Serving.{Outcome, echoed, named}
use Rattle.bench.specs.Calls.{Replied, reply_answer, reply_after}
use Rattle.bench.specs.Benches.{state_of}
use Rattle.bench.proofs.Attaching.{unaltered, kept, altered, comes_to, adds}
use Rattle.bench.specs.Granting.{granted_stands, row_there}
use Rattle.bench.proofs.bench.Bench.attach.Goals as goal

pub unwrap-row-requires : goal.unwrap-row-requires
unwrap-row-requires c =
    let t = c.args.self.now.filters in
    let name = c.args.name.now in
    row_there _ _ _ _ (ap (λ (x : Key). is_filter (named x name)) c.grant-key.ensures ∙ granted_stands (key_of c.args.wanted) (held t) name c.requires) c.bpf.ensures

pub returns-in_err-echo : goal.returns-in_err-echo
returns-in_err-echo c =
    let b = c.args.self.now in
    let fs = held b.filters in
    let f = meaning c.unwrap-row.result in
    let q = c.args.request.bytes.now in
    let name = c.args.name.now in
    let k = key_of c.args.wanted in
    let o = comes_to k (key_of c.grant-key.result) name q fs f c.grant-key.ensures (rw c.unwrap-row.ensures at c.bpf.ensures) c.in_default.ensures in
    let r = c.from_residual in
    let p = err_from_is_err_and r.result r.ensures.1 in
    let came : r.result ≡ c.echo.result = p.1 ∙ ap Err p.2 ∙ sym c.in_err-echo.was in
    let a = unaltered (echoed 0x060D f q fs) (echoed 0x060D f q (fs ++ (f ∷ []))) (state_of b) (state_of c.echo.new.self) refl c.echo.result _ c.in_err-echo.was c.echo.ensures in
    (came ∙ a.0 ∙ ap (λ (x : Outcome). reply_answer x (state_of b)) (sym o), a.1 ∙ ap (λ (x : Outcome). reply_after x (state_of b)) (sym o))

pub returns : goal.returns
returns c =
    let b = c.args.self.now in
    let fs = held b.filters in
    let f = meaning c.unwrap-row.result in
    let q = c.args.request.bytes.now in
    let name = c.args.name.now in
    let k = key_of c.args.wanted in
    let g = key_of c.grant-key.result in
    let o = comes_to k g name q fs f c.grant-key.ensures (rw c.unwrap-row.ensures at c.bpf.ensures) c.in_default.ensures in
    let t = state_of c.echo.new.self in
    let ok : Replied (echoed 0x060D f q fs) (state_of b) (Ok tt) t = (c.in_ok-echo.ensures.0, c.echo.ensures.1) in
    let w = kept (echoed 0x060D f q fs) (echoed 0x060D f q (fs ++ (f ∷ []))) (state_of b) t refl ok in
    let h = adds k g name q fs f c.grant-key.ensures (rw c.unwrap-row.ensures at c.bpf.ensures) c.in_default.ensures _ _ c.add.result w c.add.ensures.answer c.add.ensures.after in
    let a = altered (echoed 0x060D f q fs) (echoed 0x060D f q (fs ++ (f ∷ []))) (state_of b) t refl _ h ok in
    (a.0 ∙ ap (λ (x : Outcome). reply_answer x (state_of b)) (sym o), a.1 ∙ ap (λ (x : Outcome). reply_after x (state_of b)) (sym o))
