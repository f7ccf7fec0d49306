use Rattle.std.proofs.Common.{inl, inr, arith}
use Rattle.rehearse.proofs.Hexing.{not_hex, is_hex_text}
use Rattle.rehearse.proofs.script.hex_bytes.Goals.{then-is_hex, else-is_hex}
use Rattle.rehearse.proofs.script.hex_bytes.Goals as goal

pub returns-after-is_hex-clause-refused : goal.returns-after-is_hex-clause-refused
returns-after-is_hex-clause-refused c =
    elim c.if-is_hex.branch [
      | then-is_hex w ↦ inl (w.result-is, is_hex_text c.args.text.now (λ odd. let h = c.decode.ensures.odd odd in let i = c.in-Err-OutOfMemory.is in let o = c.in-Err-OutOfMemory.field-0-is in grind arith) (c.is_hex.ensures.0 w.if-is_hex.true))
      | else-is_hex w ↦ inr (w.result-is, not_hex c.args.text.now (λ all. let t = c.is_hex.ensures.1 all in let f = w.if-is_hex.false in grind arith))
    ]
