-- What a round of service does.
use Rattle.std.specs.Prelude.{◌≡◌, ℕ, ◌+◌, [], ◌∷◌, Some, None, Option}
use Rattle.stage.specs.declared.Stage.{Ghosts}
use Rattle.board.specs.declared.board.Board.{Board}
use Rattle.board.specs.Acts.{act_take, act_close, waiting_gate}
use Rattle.board.specs.Runs.{BoardUnchanged, board_state}
use Rattle.board.specs.Sequences.{PerformsAll}

-- a gate waits if it calls and has no slip out: no gate waits, and a refused take changes nothing; or the lowest-numbered one that waits
-- had its slip taken, and closed with a word
abbrev pub ServesNext : {S : Type 0} (m : Ghosts S) → ℕ → Board S m → Board S m → Option ℕ → Type 0
ServesNext m w b c None = (waiting_gate (board_state b) ≡ None) × BoardUnchanged m b c × PerformsAll m (act_take ∷ []) b c
ServesNext m w b c (Some n) =
    (k : ℕ) × (n ≡ k + 1) × (Some k ≡ waiting_gate (board_state b)) × PerformsAll m (act_close k w ∷ (act_take ∷ [])) b c
