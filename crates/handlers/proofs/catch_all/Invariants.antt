use Rattle.handlers.proofs.Words.{Catching}
use Rattle.handlers.proofs.catch_all.Given as goal

abbrev pub invariant-loop-o : goal.invariant-loop-o
invariant-loop-o l = Catching l.code l.opcodes l.handlers l.blocks l.prefixes l.initial.catches l.catches l.o
