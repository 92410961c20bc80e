use Rattle.reader.specs.Reading.{slots_from}
use Rattle.reader.proofs.Reading.{slots_yield, fewer_left}
use Rattle.reader.proofs.SlotReaderIterator.next.Goals as goal

pub returns-clause-steps : goal.returns-clause-steps
returns-clause-steps c = rw c.next.ensures.1 (slots_yield _ _ _ _ c.next.ensures.0 c.next.ensures.2)

pub returns-clause-goes : goal.returns-clause-goes
returns-clause-goes c = fewer_left (λ s. slots_from s.slots.now s.at) _ _ _ (returns-clause-steps c)
