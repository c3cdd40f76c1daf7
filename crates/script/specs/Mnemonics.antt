-- The mnemonics of the commands.
use Rattle.std.specs.Prelude.{◌≡◌, ℕ, true, false, List, Some, None, codes, Option, ◌≢◌}
use Rattle.wave.specs.declared.phases.MotorKind.TheVariants as motor
use Rattle.gate.specs.declared.gate.BreakMode.TheVariants as break
use Rattle.gate.specs.declared.profile.ProfileMode.TheVariants as mode
use Rattle.gate.specs.declared.orders.Order.TheVariants.{Mode, Stop, Update, Auto, Break, Motor}
use Rattle.gate.specs.declared.orders.WordOrder.TheVariants as word
use Rattle.gate.specs.declared.orders.LongOrder.TheVariants as long
use Rattle.gate.specs.declared.queries.Query.TheVariants as query
use Rattle.board.specs.declared.command.GateName.TheVariants.{First, Second, Calling, Current}
use Rattle.board.specs.declared.command.Command.{Command}
use Rattle.board.specs.declared.command.Command.TheVariants.{Status, Ask, Now, Word, Long, MultiUpdate}

abbrev pub mnemonic : Command → List ℕ
mnemonic (Status First) = codes "SET_1"
mnemonic (Status Second) = codes "SET_2"
mnemonic (Status Calling) = codes "SET_I"
mnemonic (Status Current) = codes "GET_STATUS"
mnemonic (Now (Mode mode.Trapezoidal)) = codes "SET_PRFL_TRAP"
mnemonic (Now (Mode mode.Velocity)) = codes "SET_PRFL_VEL"
mnemonic (Now Stop) = codes "STOP"
mnemonic (Now Update) = codes "UPDATE"
mnemonic (Now (Auto true)) = codes "SET_AUTO_UPDATE_ON"
mnemonic (Now (Auto false)) = codes "SET_AUTO_UPDATE_OFF"
mnemonic (Now (Break break.Off)) = codes "SET_BRK_OFF"
mnemonic (Now (Break break.Time)) = codes "SET_TIME_BRK"
mnemonic (Now (Break break.TargetAbove)) = codes "SET_POS_BRK"
mnemonic (Now (Break break.TargetBelow)) = codes "SET_NEG_BRK"
mnemonic (Now (Break break.ActualAbove)) = codes "SET_ACTL_POS_BRK"
mnemonic (Now (Break break.ActualBelow)) = codes "SET_ACTL_NEG_BRK"
mnemonic (Now (Break break.Complete)) = codes "SET_MTN_CMPLT_BRK"
mnemonic (Now (Break break.External)) = codes "SET_EXT_BRK"
mnemonic (Now (Motor motor.TwoPhase)) = codes "SET_PHASE_2"
mnemonic (Now (Motor motor.ThreePhase)) = codes "SET_PHASE_3"
mnemonic (Word word.BufferedPower) = codes "SET_BUF_MTR_CMD"
mnemonic (Word word.Power) = codes "SET_MTR_CMD"
mnemonic (Word word.ClearEvents) = codes "RST_STATUS"
mnemonic (Word word.Mask) = codes "SET_INTRPT_MASK"
mnemonic MultiUpdate = codes "MULTI_UPDATE"
mnemonic (Long long.Destination) = codes "SET_POS"
mnemonic (Long long.Velocity) = codes "SET_VEL"
mnemonic (Long long.Acceleration) = codes "SET_ACC"
mnemonic (Long long.Point) = codes "SET_BRK_PNT"
mnemonic (Long long.Actual) = codes "SET_ACTL_POS"
mnemonic (Ask query.Destination) = codes "GET_POS"
mnemonic (Ask query.Velocity) = codes "GET_VEL"
mnemonic (Ask query.Acceleration) = codes "GET_ACC"
mnemonic (Ask query.TargetPosition) = codes "GET_TRGT_POS"
mnemonic (Ask query.TargetVelocity) = codes "GET_TRGT_VEL"
mnemonic (Ask query.ActualPosition) = codes "GET_ACTL_POS"
mnemonic (Ask query.ClockTime) = codes "GET_TIME"

-- the command that a word names, or none, where it names none
abbrev pub NamesCommand : List ℕ → Option Command → Type 0
NamesCommand text (Some c) = text ≡ mnemonic c
NamesCommand text None = (c : Command) → text ≢ mnemonic c
