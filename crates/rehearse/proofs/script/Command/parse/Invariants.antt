use Rattle.std.proofs.Common.{length}
use Rattle.std.specs.Str.Iter.{split_whitespace_rest}
use Rattle.rehearse.proofs.script.Command.parse.Given as goal

abbrev pub decreases-loop-token : goal.decreases-loop-token
decreases-loop-token l = length (split_whitespace_rest l.tokens)
