use Rattle.std.proofs.Common.{arith}
use Rattle.std.proofs.lemmas.List.Sums.{prefix_len-le-length}
use Rattle.reader.specs.Names.{nonzero}
use Rattle.reader.proofs.text.text_of.Goals as goal

pub overflow_add-n : goal.overflow_add-n
overflow_add-n c = omega (arith, c.zero_at-n.ensures, prefix_len-le-length nonzero c.args.payload.now)
