use Rattle.desk.specs.Runs.{RunsCycles}
use Rattle.desk.proofs.desk.Desk.run.Given as goal

abbrev pub invariant-loop-turn : goal.invariant-loop-turn
invariant-loop-turn g l = RunsCycles g.S.Stage l._turn l.initial.self.board l.self.board
