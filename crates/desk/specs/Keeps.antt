-- The slips that a desk keeps for a board.
use Rattle.std.specs.Prelude.{ℕ, Bool, not, ◌&&◌, Some, None, Option, ◌==◌}
use Rattle.stage.specs.declared.Stage.{Ghosts}
use Rattle.board.specs.declared.board.Board.{Board}
use Rattle.board.specs.declared.slip.Slip.{Slip}
use Rattle.board.specs.Acts.{State}
use Rattle.board.specs.Runs.{board_state, slip_axis}

-- a slip of gate k is kept just while that gate's slip is out
abbrev pub is_kept_while_out : ℕ → Option Slip → Bool → Bool
is_kept_while_out k (Some s) out = slip_axis s == k && out
is_kept_while_out k None out = not out

abbrev pub state_has_kept_slips : State → Option Slip → Option Slip → Bool
state_has_kept_slips s first second = is_kept_while_out 0 first s.one.slip && is_kept_while_out 1 second s.two.slip

abbrev pub has_kept_slips : {S : Type 0} {m : Ghosts S} → Board S m → Option Slip → Option Slip → Bool
has_kept_slips b first second = state_has_kept_slips (board_state b) first second
