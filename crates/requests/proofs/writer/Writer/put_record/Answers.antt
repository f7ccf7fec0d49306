use Rattle.std.proofs.Common.{ℕ, sym, subst, rules}
use Rattle.requests.specs.Writing.{Puts}
use Rattle.requests.proofs.Putting.{puts_piece}
use Rattle.requests.proofs.writer.Writer.put_record.Goals as goal

pub returns : goal.returns
returns g c =
    let w = rw c.unwrap-self.ensures at c.write.ensures in
    let before = c.args.self.now.out.now in
    let piece = g.R.Record.bytes c.args.head.now in
    let at = c.args.self.now.at in
    record {
      same = search rules;
      room = search rules;
      end = w.0;
      puts = subst (λ (n : ℕ). Puts before c.write.new.out at n piece) (sym w.0)
          (puts_piece before c.write.new.out piece at g.R.Record.wide (g.met.R.Record.sized c.args.head.now) w.3);
    }
