use Rattle.std.proofs.Common.{List, ℕ, ◌++◌, drop, ℤ, ap, ◌∙◌, arith, w32, SFits, of_z, rules}
use Rattle.std.proofs.lemmas.List.{drop-drop}
use Rattle.std.proofs.lemmas.Int.{to_z-of_z}
use Rattle.records.specs.Words.{bytes4}
use Rattle.records.specs.Fields.{nlmsghdr_bytes}
use Rattle.records.proofs.nlmsgerr.NlmsgerrRecord.encode.Goals as goal

pub returns : goal.returns
returns c =
    let x = c.args.self.now in
    let p = c.in_ok-out.ensures.cases in
    let h = c.in_ok-taken.ensures in
    let f : SFits w32 x.status = search rules in
    let s = c.to_le_bytes.ensures ∙ ap (λ (z : ℤ). bytes4 (of_z w32 z)) (to_z-of_z w32 x.status f) in
    let b = h.2 ∙ ap (λ (z : List ℕ). nlmsghdr_bytes x.header ++ z) (ap (drop 16) p.1 ∙ drop-drop 16 4 c.args.out.now) in (
      omega (arith, h.0),
      omega (arith, h.1, p.2),
      ap (λ (z : List ℕ). z ++ c.encode.new.out) s ∙ ap (λ (z : List ℕ). bytes4 (of_z w32 x.status) ++ z) b,
      (f, h.3),
    )
