use Rattle.std.proofs.Common.{ℕ, ◌+◌, ap, rules}
use Rattle.requests.proofs.Putting.{puts_ends}
use Rattle.requests.proofs.Filters.{filter_puts}
use Rattle.requests.proofs.bpf.Bpf.put_filter.Goals as goal

pub returns-clause-puts : goal.returns-clause-puts
returns-clause-puts g c =
    let x = c.args.self.now in
    puts_ends _ c.put_word-2.new.self.out.now _ _ 0 _ _ (search rules) c.len.ensures
    (filter_puts (g.C.Optional.value x.classid) x.fd c.args.name.bytes.now x.flags _ _ _ _ _ _ _ _ _ _ _ _ _ _ _ c.args.flags c.args.family_header.now _ c.args.nested
    c.class_word.result c.class_word.ensures c.requires.0 (ap (λ (k : ℕ). 44 + k) c.from.ensures) c.begin-writer.ensures.puts c.put_attribute.ensures.puts
    c.open_attribute.ensures.puts c.put_optional.ensures.puts c.put_word.ensures.puts c.put_text.ensures.puts c.put_word-2.ensures.puts)
