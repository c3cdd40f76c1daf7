use Rattle.std.proofs.Common.{◌^◌, ◌<◌}
use Rattle.motion.proofs.tests.count_move.Given as goal

abbrev pub invariant-loop-cycle : goal.invariant-loop-cycle
invariant-loop-cycle l = l.speed < 2 ^ 30
