use Rattle.std.proofs.Common.{ℕ, List, length}
use Rattle.replay.specs.declared.entry.Step.{Step}
use Rattle.replay.specs.Replays.{PlaysSteps}
use Rattle.replay.specs.Written.{Appends}
use Rattle.replay.proofs.boards.Boards.play.Given as goal

-- the steps in front of the rest were played and answered
abbrev pub invariant-loop-rest : goal.invariant-loop-rest
invariant-loop-rest g l =
    (ss : List Step) × (bytes : List ℕ)
    × PlaysSteps g.S.Stage g.R.Stage l.list l.initial.self.a.board l.initial.self.b.board l.initial.lists ss l.rest l.self.a.board l.self.b.board l.lists bytes
    × Appends l.initial.out l.out bytes

abbrev pub decreases-loop-rest : goal.decreases-loop-rest
decreases-loop-rest g l = length l.rest
