-- What the library's function returns and leaves.
use Rattle.std.specs.Prelude.{◌≡◌, ℕ, ◌<◌, ◌≤◌, ◌⊎◌, List, length, Ok, Err, Result}
use Rattle.stage.specs.declared.Stage.{Ghosts}
use Rattle.stage.specs.declared.dac.Word.{Word}
use Rattle.stage.specs.declared.levels.Levels.{Levels}
use Rattle.stage.specs.declared.pwm.Lines.{Lines}
use Rattle.stage.specs.declared.wiring.Wiring.{Wiring}
use Rattle.stage.specs.Dac.{dac_pairs}
use Rattle.stage.specs.Pwm.{pwm_pairs}
use Rattle.stage.specs.Wiring.{wiring_pairs}
use Rattle.replay.specs.declared.fault.Fault.{Fault}
use Rattle.replay.specs.declared.fault.Fault.TheVariants.{NoRoom}
use Rattle.replay.specs.Faults.{fault_number}
use Rattle.replay.specs.Replays.{AnswersList}

-- the stages of board a and of board b
abbrev pub stage_a : Ghosts (Levels Word)
stage_a = record { STEP = 1; pairs = dac_pairs }

abbrev pub stage_b : Ghosts (Wiring (Levels Lines))
stage_b = record { STEP = 128; pairs = wiring_pairs pwm_pairs }

abbrev pub return_code : Result (Unit {0}) Fault → ℕ
return_code (Ok u) = 0
return_code (Err f) = fault_number f

-- `out` has no room for the first 8 bytes, and nothing is done; or the list is played
abbrev pub Returns : List ℕ → List ℕ → List ℕ → ℕ → Type 0
Returns xs out last r =
    ((length out < 8) × (r ≡ fault_number NoRoom) × (last ≡ out))
    ⊎ ((8 ≤ length out) × ((e : Result (Unit {0}) Fault) × (r ≡ return_code e) × AnswersList stage_a stage_b xs out last e))
