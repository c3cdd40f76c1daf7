use Rattle.std.proofs.Common.{◌≤◌, length, map}
use Rattle.host.specs.Scripts.{PlaysScript}
use Rattle.host.proofs.session.play_script.Given as goal

abbrev pub invariant-loop-index : goal.invariant-loop-index
invariant-loop-index g l =
    (l.faults ≤ length l.yielded)
    × PlaysScript g.S.Stage g.R.Stage g.S.Wires.codes g.R.Wires.codes (map (λ item. item.1.now) l.yielded) l.faults l.initial.boards l.boards
