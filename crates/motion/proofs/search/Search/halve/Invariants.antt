use Rattle.std.proofs.Common.{◌-◌}
use Rattle.motion.specs.Search.{SameSearch}
use Rattle.motion.proofs.search.Search.halve.Given as goal

abbrev pub invariant-loop-self : goal.invariant-loop-self
invariant-loop-self l = SameSearch l.fn.self l.self

abbrev pub decreases-loop-self : goal.decreases-loop-self
decreases-loop-self l = l.self.high - l.self.low
