use Rattle.board.proofs.Alike.{booked_board, isolated}
use Rattle.board.proofs.Owners.{entered}
use Rattle.board.proofs.board.compare.compare.Goals as goal

pub returns-clause-isolated : goal.returns-clause-isolated
returns-clause-isolated g c = isolated _ _ _ _ g.met.S.Stage.range.0 g.met.R.Stage.range.0

pub returns-clause-booked_a : goal.returns-clause-booked_a
returns-clause-booked_a g c = booked_board _ _

pub returns-clause-booked_b : goal.returns-clause-booked_b
returns-clause-booked_b g c = booked_board _ _

pub returns-clause-attributed : goal.returns-clause-attributed
returns-clause-attributed g c = entered
