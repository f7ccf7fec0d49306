use Rattle.std.proofs.Common.{List, Some, None, Option, length, ap, arith, rules}
use Rattle.std.specs.Borrow.{Bor}
use Rattle.std.specs.Iterator.{MakesProgress, YieldsFirstRef, item_count}
use Rattle.reader.specs.declared.texts.Texts.{Texts}
use Rattle.reader.specs.Names.{texts_of}
use Rattle.reader.proofs.Handing.{found}
use Rattle.reader.proofs.texts.TextsIterator.next.Goals as goal

nearer : {S A : Type 0} (rest : S → List A) (s t : S) (r : Option (Bor A)) → YieldsFirstRef rest s r t → MakesProgress (λ _. Unit {0}) (item_count rest) s r t
nearer rest s t None y = record { on = λ _. tt; keeps = tt; rests = λ _. tt }
nearer rest s t (Some x) y = record { on = λ _. (tt, tt, omega (arith, ap length y)); keeps = tt; rests = λ _. tt }

pub returns : goal.returns
returns c =
    let e = found _ (λ f x r q k. search rules) c.args.self.now.row c.find_map.new.self _ c.find_map.result c.find_map.ensures.ran c.find_map.ensures.runs in
    record { steps = e; goes = nearer (λ (s : Texts). texts_of s.row.rest.now) _ _ _ e }
