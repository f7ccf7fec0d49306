use Rattle.std.proofs.Common.{rules}
use Rattle.requests.specs.FilterMessages.{texts_of}
use Rattle.requests.proofs.Putting.{puts_ends}
use Rattle.requests.proofs.Telling.{told_puts}
use Rattle.requests.proofs.filter.Told.put.Goals as goal

pub returns-clause-puts : goal.returns-clause-puts
returns-clause-puts c =
    let t = c.args.self.now in
    λ k e. puts_ends _ c.put_options.new.writer.out.now _ _ 0 _ _ (search rules) c.len.ensures
    (told_puts _ _ _ _ _ _ _ c.args.flags c.args.size k t.header t.kind.bytes.now (texts_of t.name) e c.requires.0 c.begin-writer.ensures.puts
    c.put_text.ensures.puts c.put_options.ensures.puts)
