-- Histories: lists of acts, the newest first, and what each act owes.
use Rattle.std.specs.Prelude.{◌≡◌, ℕ, ◌<◌, Bool, true, false, cond, ◌==◌, List, [], ◌∷◌, Ok, Err, Result, ◌≢◌}
use Rattle.stage.specs.declared.Stage.{Ghosts}
use Rattle.stage.specs.Pairs.{Pair, Pairs, quantized_pair, zero_pairs}
use Rattle.gate.specs.Cycles.{gate_phases}
use Rattle.gate.specs.Gates.{fresh_gate}
use Rattle.board.specs.declared.refusal.Refusal.{Refusal}
use Rattle.board.specs.declared.refusal.Refusal.TheVariants.{OutOfRange}
use Rattle.board.specs.declared.port.Port.TheVariants.{Idle, TakingGates}
use Rattle.board.specs.declared.board.Board.{Board}
use Rattle.board.specs.declared.slip.Slip.{Slip}
use Rattle.board.specs.Own.{Answer, answer_refused, answer_slip, answer_done}
use Rattle.board.specs.Owners.{IsAtPort, IsForeign, SetsCurrent}
use Rattle.board.specs.Acts.{State, state_of, gate_of, Act, act_write, act_cycle, act_reset, state_after_act, answer}

abbrev pub answer_of_slip : Result Slip Refusal → Answer
answer_of_slip (Ok s) = answer_slip s.axis
answer_of_slip (Err e) = answer_refused e

abbrev pub answer_of_close : Result (Unit {0}) (Refusal × Slip) → Answer
answer_of_close (Ok _) = answer_done
answer_of_close (Err p) = answer_refused p.0

abbrev pub new_state : State
new_state = record { one = fresh_gate false; two = fresh_gate false; current = 0; port = Idle }

-- the state that a list of acts leads to, from a new board
abbrev pub state_after : List Act → State
state_after [] = new_state
state_after (a ∷ h) = state_after_act (state_after h) a

-- the one refusal that changes something: a write's 5 closes the packet
abbrev pub closes_packet : Act → Refusal → Bool
closes_packet (act_write w) OutOfRange = true
closes_packet a e = false

-- only a cycle and a reset reach the stage
abbrev pub is_stage_act : Act → Bool
is_stage_act (act_cycle i j) = true
is_stage_act act_reset = true
is_stage_act a = false

-- the numbers that an act gives to the stage that it reaches: the phases of both gates in a cycle, and 0 in a reset
abbrev pub given_pairs : State → Act → Pairs
given_pairs s (act_cycle i j) =
    record { one = gate_phases (state_after_act s (act_cycle i j)).one; two = gate_phases (state_after_act s (act_cycle i j)).two }
given_pairs s a = zero_pairs

-- the numbers that a list of acts last gave to the stage
abbrev pub given_pairs_after : List Act → Pairs
given_pairs_after [] = zero_pairs
given_pairs_after (a ∷ h) = cond (is_stage_act a) (given_pairs (state_after h) a) (given_pairs_after h)

-- what a stage of a step shows of numbers
abbrev pub quantized_pairs : ℕ → Pairs → Pairs
quantized_pairs step p = record { one = quantized_pair step p.one; two = quantized_pair step p.two }

-- the pairs that a stage of a step shows after an act, where it showed others before
abbrev pub shown_pairs : ℕ → State → Act → Pairs → Pairs
shown_pairs step s a before = cond (is_stage_act a) (quantized_pairs step (given_pairs s a)) before

-- gate k's pair
abbrev pub axis_pair : Pairs → ℕ → Pair
axis_pair p k = cond (k == 0) p.one p.two

-- a slip's axis: 0 for gate 1, 1 for gate 2, and a board's state and stage, for who sees no field of a slip or a board
abbrev pub slip_axis : Slip → ℕ
slip_axis s = s.axis

abbrev pub board_state : {S : Type 0} {m : Ghosts S} → Board S m → State
board_state b = state_of b.table

abbrev pub stage_of : {S : Type 0} {m : Ghosts S} → Board S m → S
stage_of b = b.stage

-- a board, over a make m of stage
module _ {S : Type 0} (m : Ghosts S) where
  -- the board is what the acts of h make of a new one
  pub record IsReachedBy (h : List Act) (b : Board S m) : Type 0 where
    pub state : state_of b.table ≡ state_after h
    pub pairs : m.pairs b.stage ≡ quantized_pairs m.STEP (given_pairs_after h)

  -- nothing is changed: gates, current gate, port and stage are those that stood before, and so are the pairs shown
  pub record BoardUnchanged (b c : Board S m) : Type 0 where
    pub state : state_of c.table ≡ state_of b.table
    pub stage : c.stage ≡ b.stage
    pub pairs : m.pairs c.stage ≡ m.pairs b.stage

  -- gate k's record and its pair are those that were
  pub record SparesGate (k : ℕ) (b c : Board S m) : Type 0 where
    pub record_stays : gate_of (state_of c.table) k ≡ gate_of (state_of b.table) k
    pub pair_stays : axis_pair (m.pairs c.stage) k ≡ axis_pair (m.pairs b.stage) k

  -- the act a, answered by x, makes c of the board b
  pub record Performs (a : Act) (x : Answer) (b c : Board S m) : Type 0 where
    pub answers : x ≡ answer (state_of b.table) a
    pub state : state_of c.table ≡ state_after_act (state_of b.table) a
    pub pairs : m.pairs c.stage ≡ shown_pairs m.STEP (state_of b.table) a (m.pairs b.stage)
    -- an act that does not reach the stage leaves it as it stood, with all that is on its wires
    pub stage : is_stage_act a ≡ false → c.stage ≡ b.stage
    -- a refusal but a write's 5 leaves everything as it stood
    pub kept : (e : Refusal) → x ≡ answer_refused e → closes_packet a e ≡ false → BoardUnchanged b c
    -- gate 1 is current after a reset, a gate after its status is asked, and else the one that was
    pub sets_current : SetsCurrent (state_of b.table) a (state_of c.table)
    -- an act that is no gate k's leaves its record and its pair as they were
    pub spared : (k : ℕ) → k < 2 → IsForeign k (state_of b.table) a → SparesGate k b c
    -- so a packet other than MULTI_UPDATE changes at most the record of the gate that is current
    pub packet :
        (k : ℕ) → k < 2 → IsAtPort a → (state_of b.table).port ≢ TakingGates → k ≢ (state_of b.table).current
        → gate_of (state_of c.table) k ≡ gate_of (state_of b.table) k
    pub history : (h : List Act) → IsReachedBy h b → IsReachedBy (a ∷ h) c
