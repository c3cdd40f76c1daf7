use Rattle.std.proofs.Common.{◌≡◌, ◌*◌, ◌≤◌}
use Rattle.motion.specs.StoppingDistance.{stopping_distance}
use Rattle.motion.proofs.tester.Tester.guess.Given as goal

abbrev pub invariant-loop-turn : goal.invariant-loop-turn
invariant-loop-turn l =
    record {
      terms : l.terms ≤ l.top;
      speed : l.terms * l.self-inside.rate.size ≤ l.top;
      covered : l.covered ≡ stopping_distance l.self-inside.rate.size (l.terms * l.self-inside.rate.size);
    }
