use Rattle.gate.specs.Sound.{IsSound}
use Rattle.gate_tests.proofs.drive.follows.Given as goal

abbrev pub invariant-loop-row : goal.invariant-loop-row
invariant-loop-row g l = IsSound l.gate
