-- Calls served one after the other, with at most one slip in hand.
use Rattle.std.specs.Prelude.{◌≡◌, ℕ, true, List, [], ◌∷◌, Some, None, Option}
use Rattle.stage.specs.declared.Stage.{Ghosts}
use Rattle.board.specs.declared.board.Board.{Board}
use Rattle.board.specs.declared.refusal.Refusal.{Refusal}
use Rattle.board.specs.declared.slip.Slip.{Slip}
use Rattle.board.specs.Own.{answer_done, answer_refused, answer_slip}
use Rattle.board.specs.Acts.{State, Act, act_take, act_close, gate_of, waiting_gate}
use Rattle.board.specs.Runs.{Performs, BoardUnchanged, board_state, slip_axis}
use Rattle.board.specs.Sequences.{PerformsAll, state_from}
use Rattle.service.specs.declared.turns.ServedCalls.{ServedCalls}
use Rattle.service.specs.declared.turns.ServedCalls.TheVariants.{Neither, One, Both}

-- the slip in hand is out at the board
abbrev pub IsInHand : {S : Type 0} {m : Ghosts S} → Board S m → Option Slip → Type 0
IsInHand b (Some s) = (gate_of (board_state b) (slip_axis s)).slip ≡ true
IsInHand b None = Unit {0}

-- gate k's slip is taken, and closed with a word, after other acts
abbrev pub service_acts : ℕ → ℕ → List Act → List Act
service_acts k w acts = act_close k w ∷ (act_take ∷ acts)

-- the state after that service of gate k
abbrev pub state_after_service : State → ℕ → ℕ → State
state_after_service s k w = state_from s (service_acts k w [])

module _ {S : Type 0} (m : Ghosts S) where
  -- the slip of a take is in hand; or there is none, and the take is refused
  abbrev pub Picks : Option Slip → Board S m → Board S m → Type 0
  Picks (Some s) b d = Performs m act_take (answer_slip (slip_axis s)) b d
  Picks None b d = (e : Refusal) × Performs m act_take (answer_refused e) b d

  -- the slip in hand is closed with a word
  abbrev pub Puts : ℕ → Option Slip → Board S m → Board S m → Type 0
  Puts w (Some s) b d = Performs m (act_close (slip_axis s) w) answer_done b d
  Puts w None b d = ⊥

  -- no gate waits, and a refused take changes nothing; one waits and has its turn with the first word, and none waits then, so that a
  -- second take changes nothing; or two have a turn, one after the other, each with its word
  abbrev pub ServesInTurn : ℕ → ℕ → ServedCalls → Board S m → Board S m → Type 0
  ServesInTurn v w Neither b d = (waiting_gate (board_state b) ≡ None) × BoardUnchanged m b d × PerformsAll m (act_take ∷ []) b d
  ServesInTurn v w One b d =
      (k : ℕ) × (Some k ≡ waiting_gate (board_state b)) × (waiting_gate (state_after_service (board_state b) k v) ≡ None)
      × (board_state d ≡ state_after_service (board_state b) k v) × PerformsAll m (act_take ∷ service_acts k v []) b d
  ServesInTurn v w Both b d =
      (k : ℕ) × (j : ℕ) × (Some k ≡ waiting_gate (board_state b)) × (Some j ≡ waiting_gate (state_after_service (board_state b) k v))
      × PerformsAll m (service_acts j w (service_acts k v [])) b d
