use Rattle.gate.specs.Sound.{IsSound}
use Rattle.gate_tests.proofs.drive.travel.Given as goal

abbrev pub invariant-loop-turn : goal.invariant-loop-turn
invariant-loop-turn l = IsSound l.gate
