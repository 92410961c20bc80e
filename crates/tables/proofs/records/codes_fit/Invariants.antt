use Rattle.tables.proofs.Fields.{Passed}
use Rattle.tables.proofs.records.codes_fit.Given as goal

abbrev pub invariant-loop-k : goal.invariant-loop-k
invariant-loop-k l = Passed l.s l.at l.count l.known l.k l.rest
