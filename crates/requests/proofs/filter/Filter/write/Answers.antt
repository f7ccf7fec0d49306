use Rattle.std.proofs.Common.{◌≡◌, ℕ, ◌≤◌, List, length, Option, sym, ap, ◌∙◌, arith}
use Rattle.std.proofs.lemmas.Result.{err_from_is_err_and}
use Rattle.requests.specs.FilterMessages.{filter_of, texts_of, filter_length, filter_bytes, filter_fault}
use Rattle.requests.proofs.Built.{room_passed, short_exit, done}
use Rattle.requests.proofs.Putting.{puts_same}
use Rattle.requests.proofs.Telling.{told_length}
use Rattle.requests.proofs.filter.Filter.write.Goals as goal

pub returns-in_err-check_room : goal.returns-in_err-check_room
returns-in_err-check_room c =
    let f = filter_of c.args.self.now in
    let t = c.in_ok-told.told in
    let e = c.in_ok-told.ensures in
    let bs = filter_bytes c.args.flags f.key f.kind f.name in
    let k : length bs ≡ c.size-size.result =
    told_length c.args.flags f.key f.kind f.name
    ∙ ap (λ (y : Option (List ℕ)). filter_length f.kind y) (sym e.2)
    ∙ ap (λ (x : List ℕ). filter_length x (texts_of t.name)) (sym e.1)
    ∙ sym c.size-size.ensures.value in
    let r = c.from_residual-in_err-check_room in
    let p = err_from_is_err_and r.result r.ensures.1 in
    short_exit (filter_fault f.key f.kind f.name) e.3 r.result bs c.args.out.now c.size-size.result _ _ p.1 p.2 k c.in_err-check_room.ensures

pub returns : goal.returns
returns c =
    let f = filter_of c.args.self.now in
    let t = c.in_ok-told.told in
    let e = c.in_ok-told.ensures in
    let out = c.args.out.now in
    let bs = filter_bytes c.args.flags f.key f.kind f.name in
    let r = room_passed (length out) c.size-size.result _ c.in_ok-check_room.ensures in
    let h : c.put.result ≤ length out = omega (arith, r, c.put.ensures.end) in
    let p = puts_same _ _ _ bs _ _
    (ap (λ (x : List ℕ). filter_bytes c.args.flags f.key x (texts_of t.name)) e.1 ∙ ap (λ (y : Option (List ℕ)). filter_bytes c.args.flags f.key f.kind y) e.2)
    (c.put.ensures.puts f.key (sym e.0)) in
    done (filter_fault f.key f.kind f.name) e.3 bs out c.put.new.out c.put.result p h
