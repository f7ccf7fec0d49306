use Rattle.std.proofs.Common.{◌∙◌, w32, SFits, rules}
use Rattle.std.proofs.lemmas.List.{take_rest}
use Rattle.std.proofs.lemmas.Int.{to_z-of_z}
use Rattle.records.proofs.Same.{same_tcmsg}
use Rattle.records.proofs.tcmsg.TcmsgRecord.decode.Goals as goal

pub returns : goal.returns
returns c =
    let f : SFits w32 c.from_le_bytes-2.result = search rules in (
      search rules,
      same_tcmsg c.from_le_bytes.ensures (to_z-of_z w32 c.from_le_bytes-2.result f ∙ c.from_le_bytes-2.ensures) c.from_le_bytes-3.ensures
          c.from_le_bytes-4.ensures c.from_le_bytes-5.ensures,
      take_rest c.args.input.now 20,
      search rules,
    )
