use Rattle.std.proofs.Common.{ℤ, refl, ap, ◌∙◌, w32, SFits, of_z, rules}
use Rattle.std.proofs.lemmas.Int.{to_z-of_z}
use Rattle.records.specs.Words.{bytes4}
use Rattle.records.proofs.tcmsg.TcmsgRecord.encode.Goals as goal

pub returns : goal.returns
returns c =
    let f : SFits w32 c.args.self.now.ifindex = search rules in
    let i = c.to_le_bytes-2.ensures ∙ ap (λ (z : ℤ). bytes4 (of_z w32 z)) (to_z-of_z w32 c.args.self.now.ifindex f) in (
      refl,
      search rules,
      rw (c.to_le_bytes.ensures, i, c.to_le_bytes-3.ensures, c.to_le_bytes-4.ensures, c.to_le_bytes-5.ensures),
      (search rules, search rules, search rules, f, search rules, search rules, search rules),
    )
