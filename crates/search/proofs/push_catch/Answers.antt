use mathlib.Core.Path.{refl}
use Rattle.search.proofs.Laws.{catch_yes, catch_no, grown_one, grown_nothing, below_one}
use Rattle.search.proofs.push_catch.Goals as goal

pub returns-then-c-eq0 : goal.returns-then-c-eq0
returns-then-c-eq0 c = let s = c in grown_nothing _ (catch_no s.args.catches.now s.args.o c.number_at-c.ensures c.if-c-eq0.true) s.requires.0

pub push-requires : goal.push-requires
push-requires c = let s = c in (s.requires.0, below_one _ _ (catch_yes s.args.catches.now s.args.o c.number_at-c.ensures c.if-c-eq0.false) refl s.requires.1)

pub returns : goal.returns
returns c = let a = c.args in grown_one _ _ (catch_yes a.catches.now a.o c.number_at-c.ensures c.if-c-eq0.false) refl c.push.ensures
