use Rattle.std.proofs.Common.{rules, ◌≤◌, length, ◌-◌, drop, ◌∙◌, sym, arith}
use Rattle.capped.specs.Values.{values}
use Rattle.capped.proofs.Placing.{found, unremoved, rotated}
use Rattle.capped.proofs.list.Capped.remove.Goals as goal

pub returns-in_err-old-clause-after : goal.returns-in_err-old-clause-after
returns-in_err-old-clause-after g c =
    sym (unremoved (values c.args.self.now) c.args.place (sym c.get.ensures ∙ c.in_err-old.was))

pub offset_bounds-cells-place : goal.offset_bounds-cells-place
offset_bounds-cells-place g c =
    let h = found c.args.self.now c.args.place c.in_ok-old.old (sym c.get.ensures ∙ c.in_ok-old.was) in
    let a : c.args.place ≤ length c.args.self.now.cells = omega (arith, h.before, h.within) in
    search rules

pub slice_bounds-rotate_left-count : goal.slice_bounds-rotate_left-count
slice_bounds-rotate_left-count g c = let h = found c.args.self.now c.args.place c.in_ok-old.old (sym c.get.ensures ∙ c.in_ok-old.was) in omega (arith, h.before, h.within, h.whole)

pub slice_bounds-rotate_left-start : goal.slice_bounds-rotate_left-start
slice_bounds-rotate_left-start g c = let h = found c.args.self.now c.args.place c.in_ok-old.old (sym c.get.ensures ∙ c.in_ok-old.was) in omega (arith, h.before, h.within, h.whole)

pub rotate_left-requires : goal.rotate_left-requires
rotate_left-requires g c = let h = found c.args.self.now c.args.place c.in_ok-old.old (sym c.get.ensures ∙ c.in_ok-old.was) in omega (arith, h.before, h.within, h.whole)

pub returns-clause-after : goal.returns-clause-after
returns-clause-after g c =
    let s = c.args.self.now in
    let h = found c.args.self.now c.args.place c.in_ok-old.old (sym c.get.ensures ∙ c.in_ok-old.was) in
    rotated s.cells c.rotate_left.new.self (drop (s.len - c.args.place) (drop c.args.place s.cells)) c.args.place s.len h.before h.within c.rotate_left.ensures.after
