use Rattle.std.proofs.Common.{ℕ, ◌+◌, ap, ◌∙◌, w32, SFits, of_z, rules}
use Rattle.std.proofs.lemmas.Int.{to_z-of_z}
use Rattle.requests.proofs.Putting.{puts_ends}
use Rattle.requests.proofs.Built.{link_puts}
use Rattle.requests.proofs.link.Xdp.put_link.Goals as goal

pub returns-clause-puts : goal.returns-clause-puts
returns-clause-puts g c =
    let x = c.args.self.now in
    let f : SFits w32 x.fd = search rules in
    puts_ends _ c.put_optional.new.self.out.now _ _ 0 _ _ (search rules) c.len.ensures
    (link_puts _ _ _ _ _ _ _ _ _ _ _ c.args.flags c.args.family_header.now x.fd x.flags (g.E.Optional.value x.expected_fd) _ c.args.nested _ c.expected_word.result
    c.expected_word.ensures.word c.requires.0 (ap (λ (k : ℕ). 32 + k) c.from.ensures) (c.cast_unsigned.ensures ∙ ap (of_z w32) (to_z-of_z w32 x.fd f))
    c.begin-writer.ensures.puts c.open_attribute.ensures.puts c.put_word.ensures.puts c.put_word-2.ensures.puts c.put_optional.ensures.puts)
