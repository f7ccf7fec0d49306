use Rattle.std.proofs.Common.{refl}
use Rattle.reader.proofs.Messaging.{messages_read, messages_stop}
use Rattle.reader.proofs.messages.Messages.new.Goals as goal

pub returns : goal.returns
returns c = record { rest = refl; reads = messages_read; stops = messages_stop }
