use mathlib.Core.Path.{refl, ap}
use Rattle.search.specs.mirror.Kept.{shown}
use Rattle.search.proofs.Laws.{grown_one, grown_nothing, below_one}
use Rattle.search.proofs.push_entry.Goals as goal

pub push-requires : goal.push-requires
push-requires c = let s = c in (s.requires.0, below_one _ _ (ap shown c.in-Some.is) refl s.requires.1)

pub returns-in-Some : goal.returns-in-Some
returns-in-Some c = grown_one _ _ (ap shown c.in-Some.is) refl c.push.ensures

pub returns-in-None : goal.returns-in-None
returns-in-None c = let s = c in grown_nothing _ (ap shown c.in-None.is) s.requires.0
