use Rattle.driver.proofs.Turning.{told_replied}
use Rattle.driver.proofs.drive.exchange.Goals as goal

pub returns-in-Ok-clause-told : goal.returns-in-Ok-clause-told
returns-in-Ok-clause-told g c = told_replied _ _ _ _ _ _ c.in-Ok.ensures (simp c.begin-turn.ensures at c.receive.ensures.replied)
