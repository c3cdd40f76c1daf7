-- What a list of acts, the newest first, makes of a board, however that board came to be.
use Rattle.std.specs.Prelude.{◌≡◌, ℕ, Bool, false, ◌||◌, List, [], ◌∷◌, ◌++◌}
use Rattle.stage.specs.declared.Stage.{Ghosts}
use Rattle.stage.specs.Pairs.{Pairs}
use Rattle.board.specs.declared.board.Board.{Board}
use Rattle.board.specs.Acts.{State, state_of, Act, state_after_act}
use Rattle.board.specs.Runs.{IsReachedBy, is_stage_act, shown_pairs}

-- the state that they lead to, from a state
abbrev pub state_from : State → List Act → State
state_from s [] = s
state_from s (a ∷ acts) = state_after_act (state_from s acts) a

-- whether one of them reaches the stage
abbrev pub has_stage_act : List Act → Bool
has_stage_act [] = false
has_stage_act (a ∷ acts) = is_stage_act a || has_stage_act acts

-- the pairs that a stage of a step shows after them: by the last one that reaches the stage, and those before, where none does
abbrev pub pairs_from : ℕ → State → List Act → Pairs → Pairs
pairs_from step s [] before = before
pairs_from step s (a ∷ acts) before = shown_pairs step (state_from s acts) a (pairs_from step s acts before)

-- they make c of the board b, and carry its history on
pub record PerformsAll {S : Type 0} (m : Ghosts S) (acts : List Act) (b c : Board S m) : Type 0 where
  pub state : state_of c.table ≡ state_from (state_of b.table) acts
  pub pairs : m.pairs c.stage ≡ pairs_from m.STEP (state_of b.table) acts (m.pairs b.stage)
  pub stage : has_stage_act acts ≡ false → c.stage ≡ b.stage
  pub history : (h : List Act) → IsReachedBy m h b → IsReachedBy m (acts ++ h) c
