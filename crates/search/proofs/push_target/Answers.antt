use Rattle.search.proofs.Laws.{target_yes, target_no, grown_one, grown_nothing, below_one}
use Rattle.search.proofs.push_target.Goals as goal

pub push-requires : goal.push-requires
push-requires c = let s = c in let a = s.args in (s.requires.0, below_one _ _ (target_yes a.o a.h a.words.now c.if-h-eq1.true) c.number_at-t.ensures s.requires.1)

pub returns-then-h-eq1 : goal.returns-then-h-eq1
returns-then-h-eq1 c = let a = c.args in grown_one _ _ (target_yes a.o a.h a.words.now c.if-h-eq1.true) c.number_at-t.ensures c.push.ensures

pub returns : goal.returns
returns c = let s = c in let a = s.args in grown_nothing _ (target_no a.o a.h a.words.now c.if-h-eq1.false) s.requires.0
