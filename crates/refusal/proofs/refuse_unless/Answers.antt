use Rattle.refusal.proofs.refuse_unless.Goals as goal

pub returns-else-good : goal.returns-else-good
returns-else-good g c = rw c.if-good.false
