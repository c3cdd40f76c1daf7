use Rattle.std.proofs.Common.{rules, sym, subst}
use Rattle.wave.specs.Quarter.{IsSine}
use Rattle.wave.proofs.Sines.{sine}
use Rattle.wave.proofs.quarter.quarter.Goals as goal

pub returns-clause-is : goal.returns-clause-is
returns-clause-is c = search rules

pub returns-clause-sine : goal.returns-clause-sine
returns-clause-sine c = subst (IsSine 64) (sym (returns-clause-is c)) sine
