use Rattle.std.proofs.Common.{◌≡◌, ℕ, ◌+◌, List, ◌++◌, take, drop, ap, ◌∙◌, arith}
use Rattle.std.proofs.lemmas.List.{drop-drop}
use Rattle.records.proofs.Reading.{back_at}
use Rattle.records.proofs.record.write.Goals as goal

pub returns : goal.returns
returns g c =
    let r = g.R.Record in
    let m = g.met.R.Record in
    let xs = c.args.out.now in
    let at = c.args.at in
    let x = c.args.record.now in
    let p = c.in_ok-out.ensures.cases in
    let e = c.in_ok-taken.ensures in
    let front = p.2 in
    let rest = p.3 in
    let all = e.2 in
    let d = drop-drop r.wide at xs in
    let w : c.in_ok-out.field-0-0.now ++ c.encode.new.out ≡ take at xs ++ (r.bytes x ++ drop (at + r.wide) xs) = cc in (
      ap (λ (z : ℕ). at + z) e.0,
      omega (arith, e.0, e.1, p.4),
      e.3,
      w,
      ap (λ (z : List ℕ). r.of (drop at z)) w
          ∙ back_at r.wide r.bytes r.of r.fits m.sized m.decodes m.front x xs _ at e.3 (omega (arith, p.4)),
    )
