use Rattle.bench.proofs.Replying.{done_laid}
use Rattle.bench.proofs.reply.done.Goals as goal

pub returns : goal.returns
returns c = done_laid _ c.header.result c.header.ensures c.put.ensures
