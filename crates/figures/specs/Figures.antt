-- Worked figures: what a new board does and answers by the acts upon it, and what a PWM stage shows, at known values.
use Rattle.std.specs.Prelude.{◌≡◌, ℕ, zero, suc, ◌/◌, ◌%◌, Bool, cond, List, [], ◌∷◌, ◌++◌, map, length, ℤ, pos, neg_ℤ}
use Rattle.std.specs.Int.{w32}
use Rattle.std.specs.declared.clone.Clone as clone
use Rattle.std.proofs.Common.{of_z}
use Rattle.stage.specs.declared.Stage.{Ghosts}
use Rattle.stage.specs.declared.levels.Levels.{Levels}
use Rattle.stage.specs.declared.pwm.Lines.{Lines}
use Rattle.stage.specs.contracts.levels.LevelsStage.TheImpl as levels_stage
use Rattle.stage.specs.contracts.pwm.Lines.{the_row}
use Rattle.stage.specs.contracts.pwm.LinesForm.TheImpl as lines_form
use Rattle.stage.specs.Pairs.{Pair, Pairs, pairs_after_show}
use Rattle.motion.specs.Course.{microsteps}
use Rattle.gate.specs.Cycles.{gate_phases}
use Rattle.gate.specs.declared.events.Event.{Event}
use Rattle.gate.specs.declared.events.Event.TheVariants.{MotionComplete, WrapAround}
use Rattle.gate.specs.Events.{event_bits}
use Rattle.gate.specs.Inputs.{still_inputs}
use Rattle.board.specs.Own.{Answer, answer_done, answer_refused, answer_word, answer_words, answer_slip}
use Rattle.board.specs.Refusals.{refusal_number}
use Rattle.board.specs.Acts.{State, Act, act_command, act_write, act_cycle, state_after_act, answer}
use Rattle.board.specs.Runs.{state_after}

-- the acts of a packet: of a command with no words, with one, and with the two of a number
abbrev pub plain_packet : ℕ → List Act
plain_packet code = act_command code ∷ []

abbrev pub word_packet : ℕ → ℕ → List Act
word_packet code w = act_command code ∷ act_write w ∷ []

abbrev pub number_packet : ℕ → ℤ → List Act
number_packet code x = act_command code ∷ act_write (of_z w32 x / 65536) ∷ act_write (of_z w32 x % 65536) ∷ []

-- the packets of commands, by their mnemonics
abbrev pub set_pos : ℤ → List Act
set_pos x = number_packet 0x10 x

abbrev pub set_vel : ℤ → List Act
set_vel x = number_packet 0x11 x

abbrev pub set_acc : ℤ → List Act
set_acc x = number_packet 0x12 x

abbrev pub set_actl_pos : ℤ → List Act
set_actl_pos x = number_packet 0x4d x

abbrev pub set_mtr_cmd : ℕ → List Act
set_mtr_cmd power = word_packet 0x62 power

abbrev pub set_prfl_trap : List Act
set_prfl_trap = plain_packet 0x09

abbrev pub set_prfl_vel : List Act
set_prfl_vel = plain_packet 0x0a

abbrev pub set_phase_2 : List Act
set_phase_2 = plain_packet 0x74

abbrev pub update : List Act
update = plain_packet 0x1a

-- a state after acts, the oldest first
abbrev pub state_after_acts : State → List Act → State
state_after_acts s [] = s
state_after_acts s (a ∷ acts) = state_after_acts (state_after_act s a) acts

-- a state a cycle later, with no count and no switch active
abbrev pub state_after_cycle : State → State
state_after_cycle s = state_after_act s (act_cycle still_inputs still_inputs)

-- what an act is answered: it is accepted, refused by a number, or something is given
pub data ActOutcome : Type 0 where
  outcome_accepted : ActOutcome
  outcome_refused : ℕ → ActOutcome
  outcome_given : ActOutcome

abbrev pub outcome : Answer → ActOutcome
outcome answer_done = outcome_accepted
outcome (answer_refused r) = outcome_refused (refusal_number r)
outcome (answer_word w) = outcome_given
outcome (answer_words w ws) = outcome_given
outcome (answer_slip k) = outcome_given

-- what acts are answered, in their order
abbrev pub outcomes : State → List Act → List ActOutcome
outcomes s [] = []
outcomes s (a ∷ acts) = outcome (answer s a) ∷ outcomes (state_after_act s a) acts

-- the events whose bits are set
abbrev pub events_set : List (Event × Bool) → List Event
events_set [] = []
events_set (e ∷ es) = cond e.1 (e.0 ∷ events_set es) (events_set es)

-- what is seen of gate 1: V, the target position in microsteps, and the events whose bits are set
abbrev pub View : Type 0
View = ℤ × ℤ × List Event

abbrev pub view_of : State → View
view_of s = (s.one.motion.velocity, microsteps s.one.motion.target, events_set (event_bits s.one.events))

-- what is seen in cycle after cycle
abbrev pub course : ℕ → State → List View
course zero s = []
course (suc n) s = view_of (state_after_cycle s) ∷ course n (state_after_cycle s)

-- what acts upon a new board are answered, and what is seen in the cycles that follow
abbrev pub journey : List Act → ℕ → List ActOutcome × List View
journey acts n = (outcomes (state_after []) acts, course n (state_after_acts (state_after []) acts))

-- how the lines of a phase are copied: the copy is the same
abbrev pub copied_lines : clone.Ghosts Lines
copied_lines = record { is_clone = λ x y. y ≡ x; is_infallible = λ x. Unit {0} }

-- the make PWM as a stage
abbrev pub pwm : Ghosts (Levels Lines)
pwm = levels_stage.ghosts the_row lines_form.ghosts lines_form.dict copied_lines levels_stage.no_dict

-- a row of the figures: from a new board acts, all of them accepted, and then cycle after cycle; the phases of a two-phase motor at a
-- position by a power; what a PWM stage shows of a number, whatever it showed before; from a new board acts and what they are answered
pub data Figure : Type 0 where
  figure_move : List Act → List View → Figure
  figure_phase : ℤ → ℕ → Pair → Figure
  figure_pulse : ℤ → ℤ → Figure
  figure_answers : List Act → List ActOutcome → Figure

abbrev pub Holds : Figure → Type 0
Holds (figure_move acts xs) = journey acts (length xs) ≡ (map (λ a. outcome_accepted) acts, xs)
Holds (figure_phase position power p) =
    gate_phases (state_after_cycle (state_after_acts (state_after []) (set_phase_2 ++ set_mtr_cmd power ++ set_actl_pos position))).one ≡ p
Holds (figure_pulse x r) = (p : Pairs) → pairs_after_show pwm.STEP p 1 x x ≡ record p { one = (r, r) }
Holds (figure_answers acts xs) = outcomes (state_after []) acts ≡ xs

abbrev pub AllHold : List Figure → Type 0
AllHold [] = Unit {0}
AllHold (f ∷ fs) = Holds f × AllHold fs

abbrev pub minus : ℕ → ℤ
minus n = neg_ℤ (pos n)

abbrev pub figures : List Figure
figures =
    figure_move (set_pos (pos 1) ++ set_vel (pos 40000) ++ set_acc (pos 16384) ++ set_prfl_trap ++ update)
    ((pos 16384, pos 0, []) ∷ (pos 32768, pos 0, []) ∷ (pos 16384, pos 1, []) ∷ (pos 0, pos 1, MotionComplete ∷ []) ∷ [])
    ∷ figure_move (set_pos (pos 1) ++ set_vel (pos 65536) ++ set_acc (pos 65535) ++ set_prfl_trap ++ update)
    ((pos 65535, pos 0, []) ∷ (pos 1, pos 1, []) ∷ (pos 0, pos 1, MotionComplete ∷ []) ∷ [])
    ∷ figure_move (set_vel (pos 20000) ++ set_acc (minus 16384) ++ set_prfl_vel ++ update)
    ((minus 16384, minus 1, []) ∷ (minus 20000, minus 1, []) ∷ (minus 20000, minus 1, []) ∷ [])
    ∷ figure_move (set_actl_pos (pos 1073741822) ++ set_vel (pos 65536) ++ set_acc (pos 65536) ++ set_prfl_vel ++ update)
    ((pos 65536, pos 1073741823, []) ∷ (pos 65536, minus 1073741824, WrapAround ∷ []) ∷ [])
    ∷ figure_phase (minus 1) 32767 (minus 804, pos 32757)
    ∷ figure_phase (pos 64) 16384 (pos 16384, pos 0)
    ∷ figure_phase (pos 129) 100 (minus 2, minus 99)
    ∷ figure_pulse (pos 127) (pos 0)
    ∷ figure_pulse (minus 127) (pos 0)
    ∷ figure_pulse (minus 32767) (minus 32640)
    ∷ figure_answers (set_vel (pos 1073741823)) (outcome_accepted ∷ outcome_accepted ∷ outcome_accepted ∷ [])
    ∷ figure_answers (set_vel (pos 1073741824)) (outcome_accepted ∷ outcome_accepted ∷ outcome_refused 5 ∷ [])
    ∷ figure_answers (set_acc (minus 1)) (outcome_accepted ∷ outcome_accepted ∷ outcome_accepted ∷ [])
    ∷ figure_answers (set_acc (pos 0)) (outcome_accepted ∷ outcome_accepted ∷ outcome_refused 5 ∷ [])
    ∷ []
