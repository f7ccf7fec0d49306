use Rattle.std.proofs.Common.{refl, rules}
use Rattle.reader.specs.declared.messages.Messages.{Messages}
use Rattle.reader.specs.Walks.{Next}
use Rattle.reader.specs.Datagrams.{message_step, message_of}
use Rattle.reader.proofs.Walking.{nearer}
use Rattle.reader.proofs.Messaging.{shorter}
use Rattle.reader.proofs.messages.MessagesIterator.next.Goals as goal

pub returns : goal.returns
returns c =
    let n : Next message_of message_step c.args.self.now.rest.now c.transpose.result c.if-is_err.self.rest.now = search rules in
    record { steps = n; goes = nearer (λ (s : Messages). s.rest.now) refl shorter _ _ _ n }
