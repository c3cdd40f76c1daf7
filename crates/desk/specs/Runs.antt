-- Cycles in which the encoders stand and no switch is active.
use Rattle.std.specs.Prelude.{ℕ, List, replicate}
use Rattle.stage.specs.declared.Stage.{Ghosts}
use Rattle.gate.specs.Inputs.{still_inputs}
use Rattle.board.specs.declared.board.Board.{Board}
use Rattle.board.specs.Acts.{Act, act_cycle}
use Rattle.board.specs.Sequences.{PerformsAll}

-- so many cycles of that kind
abbrev pub still_cycles : ℕ → List Act
still_cycles n = replicate n (act_cycle still_inputs still_inputs)

-- a board goes from b to c by so many of them
abbrev pub RunsCycles : {S : Type 0} (m : Ghosts S) → ℕ → Board S m → Board S m → Type 0
RunsCycles m n b c = PerformsAll m (still_cycles n) b c
