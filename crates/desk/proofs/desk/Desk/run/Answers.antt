use Rattle.std.proofs.Common.{◌≡◌, add-one, arith}
use Rattle.gate.specs.Inputs.{still_inputs}
use Rattle.board.specs.Acts.{act_cycle}
use Rattle.board.proofs.Sequences.{performed_none, performed_then}
use Rattle.desk.specs.Runs.{still_cycles}
use Rattle.desk.proofs.desk.Desk.run.Goals as goal

pub loop-turn-init : goal.loop-turn-init
loop-turn-init g c = performed_none g.S.Stage c.args.self.now.board

pub loop-turn-preserved : goal.loop-turn-preserved
loop-turn-preserved g c =
    rw add-one (performed_then g.S.Stage (act_cycle still_inputs still_inputs) _ (still_cycles c.loop-turn._turn) _ _ _ c.loop-turn.invariant c.cycle.ensures)

pub returns : goal.returns
returns g c =
    let n : c.loop-turn._turn ≡ c.args.cycles = omega arith in
    rw n at c.loop-turn.invariant
