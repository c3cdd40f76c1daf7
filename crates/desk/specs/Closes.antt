-- What becomes of the slips that a desk keeps.
use Rattle.std.specs.Prelude.{◌≡◌, ℕ, ◌-◌, Bool, true, false, cond, List, [], ◌∷◌, ◌++◌, Some, None, Ok, Err, Option, Result}
use Rattle.stage.specs.declared.Stage.{Ghosts}
use Rattle.stage.specs.Pairs.{is_gate}
use Rattle.board.specs.declared.board.Board.{Board}
use Rattle.board.specs.declared.refusal.Refusal.{Refusal}
use Rattle.board.specs.declared.slip.Slip.{Slip}
use Rattle.board.specs.Own.{Answer, answer_slip, answer_refused, answer_done}
use Rattle.board.specs.Acts.{Act, act_close, gate_of, answer_of_unit}
use Rattle.board.specs.Runs.{slip_axis, Performs, BoardUnchanged, board_state}
use Rattle.board.specs.Sequences.{PerformsAll}

-- a take's answer, from the number of the slip's gate
abbrev pub answer_of_number : Result ℕ Refusal → Answer
answer_of_number (Ok n) = answer_slip (n - 1)
answer_of_number (Err e) = answer_refused e

-- a gate's slip that is out is closed; where the number names no gate, or that gate's slip is not out, nothing changes
abbrev pub ClosesSlip : {S : Type 0} (m : Ghosts S) → ℕ → ℕ → Bool → Board S m → Board S m → Type 0
ClosesSlip m gate w true b c = (is_gate gate ≡ true) × Performs m (act_close (gate - 1) w) answer_done b c
ClosesSlip m gate w false b c = (is_gate gate ≡ true → (gate_of (board_state b) (gate - 1)).slip ≡ false) × BoardUnchanged m b c

-- the closes of the slips that are out, the newest first
abbrev pub closing_acts : Bool → Bool → List Act
closing_acts one two = cond two (act_close 1 65535 ∷ []) [] ++ cond one (act_close 0 65535 ∷ []) []

-- every slip that was out is closed
abbrev pub ClosesAll : {S : Type 0} (m : Ghosts S) → Board S m → Board S m → Type 0
ClosesAll m b c = PerformsAll m (closing_acts (board_state b).one.slip (board_state b).two.slip) b c

-- the slip at one place is closed at a board whose own slip stands at another place: accepted, the other slip takes its place;
-- refused, it is put back
abbrev pub ClosesAt : {R : Type 0} (n : Ghosts R) → ℕ → Option (Result (Unit {0}) Refusal) → Board R n → Board R n → Option Slip
    → Option Slip → Option Slip → Option Slip → Type 0
ClosesAt n w None b c mine after theirs left = (mine ≡ None) × (after ≡ None) × (left ≡ theirs) × (c ≡ b)
ClosesAt n w (Some (Ok _)) b c mine after theirs left =
    (s : Slip) × (mine ≡ Some s) × Performs n (act_close (slip_axis s) w) answer_done b c × (after ≡ theirs) × (left ≡ None)
ClosesAt n w (Some (Err e)) b c mine after theirs left =
    (s : Slip) × (mine ≡ Some s) × Performs n (act_close (slip_axis s) w) (answer_refused e) b c × (after ≡ mine) × (left ≡ theirs)

-- the slip that a desk keeps for a gate is closed at another board, and its own board stays as it is; where the number names no gate,
-- or no slip is kept for it, neither board changes
abbrev pub ClosesElsewhere : {S R : Type 0} (m : Ghosts S) (n : Ghosts R) → ℕ → ℕ → Option (Result (Unit {0}) Refusal) → Board S m
    → Board S m → Board R n → Board R n → Type 0
ClosesElsewhere m n gate w None a b c d =
    (is_gate gate ≡ true → (gate_of (board_state a) (gate - 1)).slip ≡ false) × BoardUnchanged m a b × BoardUnchanged n c d
ClosesElsewhere m n gate w (Some r) a b c d =
    (is_gate gate ≡ true) × ((gate_of (board_state a) (gate - 1)).slip ≡ true) × BoardUnchanged m a b
    × Performs n (act_close (gate - 1) w) (answer_of_unit r) c d
