use Rattle.reader.proofs.Uncutting.{uncut_proof}
use Rattle.reader.proofs.reply.cut_at_will.Goals as goal

pub returns : goal.returns
returns g c = uncut_proof g.S.Sink.fed
