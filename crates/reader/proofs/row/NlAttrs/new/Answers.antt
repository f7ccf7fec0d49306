use Rattle.std.proofs.Common.{refl}
use Rattle.reader.proofs.Attributing.{rows_read, rows_stop}
use Rattle.reader.proofs.row.NlAttrs.new.Goals as goal

pub returns : goal.returns
returns c = record { rest = refl; reads = rows_read; stops = rows_stop }
