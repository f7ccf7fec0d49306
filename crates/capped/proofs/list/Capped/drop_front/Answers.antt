use Rattle.std.proofs.Common.{◌<◌, ◌≤◌, length, arith}
use Rattle.capped.proofs.Placing.{turned}
use Rattle.capped.proofs.list.Capped.drop_front.Goals as goal

pub returns : goal.returns
returns g c =
    let s = c.args.self.now in
    let h : c.args.n < s.len = omega arith in
    let l : s.len ≤ length s.cells = omega (arith, s.within.0, s.within.1) in
    turned s.cells c.rotate_left.new.self c.args.n s.len h l c.rotate_left.ensures.after
