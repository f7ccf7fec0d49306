use Rattle.std.proofs.Common.{◌∙◌, sym, arith}
use Rattle.std.proofs.Math.Seq.{take-set-lt}
use Rattle.capped.specs.Values.{values}
use Rattle.capped.proofs.Placing.{found, unset}
use Rattle.capped.proofs.list.Capped.replace.Goals as goal

pub returns-in_err-old-clause-after : goal.returns-in_err-old-clause-after
returns-in_err-old-clause-after g c =
    sym (unset (values c.args.self.now) c.args.place c.args.value (sym c.get.ensures ∙ c.in_err-old.was))

pub offset_bounds-self-place : goal.offset_bounds-self-place
offset_bounds-self-place g c = let h = found c.args.self.now c.args.place c.in_ok-old.old (sym c.get.ensures ∙ c.in_ok-old.was) in omega (arith, h.before, h.within, h.whole)

pub listed : goal.listed
listed g c = let h = found c.args.self.now c.args.place c.in_ok-old.old (sym c.get.ensures ∙ c.in_ok-old.was) in omega (arith, h.before, h.within, h.whole)

pub bounds-self-place : goal.bounds-self-place
bounds-self-place g c = let h = found c.args.self.now c.args.place c.in_ok-old.old (sym c.get.ensures ∙ c.in_ok-old.was) in omega (arith, h.before, h.within, h.whole)

pub returns-clause-after : goal.returns-clause-after
returns-clause-after g c =
    let h = found c.args.self.now c.args.place c.in_ok-old.old (sym c.get.ensures ∙ c.in_ok-old.was) in
    take-set-lt c.args.self.now.len c.args.self.now.cells c.args.place c.args.value h.before
