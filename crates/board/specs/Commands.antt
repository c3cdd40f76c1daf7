-- The codes of the commands, and how many words a packet takes and gives.
use Rattle.std.specs.Prelude.{◌≡◌, ℕ, true, false, cond, Some, None, Option, Result, ◌==◌}
use Rattle.std.specs.Option.{ok_or}
use Rattle.wave.specs.declared.phases.MotorKind.TheVariants as motor
use Rattle.gate.specs.declared.gate.BreakMode.TheVariants as break
use Rattle.gate.specs.declared.profile.ProfileMode.TheVariants as mode
use Rattle.gate.specs.declared.orders.Order.TheVariants.{Mode, Stop, Update, Auto, Break, Motor}
use Rattle.gate.specs.declared.orders.WordOrder.TheVariants as word
use Rattle.gate.specs.declared.orders.LongOrder.TheVariants as long
use Rattle.gate.specs.declared.queries.Query.TheVariants as query
use Rattle.board.specs.declared.command.GateName.TheVariants.{First, Second, Calling, Current}
use Rattle.board.specs.declared.command.Command.{Command}
use Rattle.board.specs.declared.refusal.Refusal.{Refusal}
use Rattle.board.specs.declared.refusal.Refusal.TheVariants.{Unknown}
use Rattle.board.specs.declared.command.Command.TheVariants.{Status, Ask, Now, Word, Long, MultiUpdate}

abbrev pub code_table : ℕ → Option Command
code_table b =
    cond (b == 0x01) (Some (Status First))
    (cond (b == 0x02) (Some (Status Second))
    (cond (b == 0x08) (Some (Status Calling))
    (cond (b == 0x09) (Some (Now (Mode mode.Trapezoidal)))
    (cond (b == 0x0a) (Some (Now (Mode mode.Velocity)))
    (cond (b == 0x10) (Some (Long long.Destination))
    (cond (b == 0x11) (Some (Long long.Velocity))
    (cond (b == 0x12) (Some (Long long.Acceleration))
    (cond (b == 0x16) (Some (Long long.Point))
    (cond (b == 0x17) (Some (Now (Break break.Time)))
    (cond (b == 0x18) (Some (Now (Break break.TargetAbove)))
    (cond (b == 0x19) (Some (Now (Break break.TargetBelow)))
    (cond (b == 0x1a) (Some (Now Update))
    (cond (b == 0x1b) (Some (Now (Break break.ActualAbove)))
    (cond (b == 0x1c) (Some (Now (Break break.ActualBelow)))
    (cond (b == 0x1d) (Some (Ask query.TargetPosition))
    (cond (b == 0x1e) (Some (Ask query.TargetVelocity))
    (cond (b == 0x2f) (Some (Word word.Mask))
    (cond (b == 0x31) (Some (Status Current))
    (cond (b == 0x34) (Some (Word word.ClearEvents))
    (cond (b == 0x35) (Some (Now (Break break.Complete)))
    (cond (b == 0x37) (Some (Ask query.ActualPosition))
    (cond (b == 0x3e) (Some (Ask query.ClockTime))
    (cond (b == 0x46) (Some (Now Stop))
    (cond (b == 0x4a) (Some (Ask query.Destination))
    (cond (b == 0x4b) (Some (Ask query.Velocity))
    (cond (b == 0x4c) (Some (Ask query.Acceleration))
    (cond (b == 0x4d) (Some (Long long.Actual))
    (cond (b == 0x5b) (Some MultiUpdate)
    (cond (b == 0x5c) (Some (Now (Auto true)))
    (cond (b == 0x5d) (Some (Now (Auto false)))
    (cond (b == 0x5e) (Some (Now (Break break.External)))
    (cond (b == 0x62) (Some (Word word.Power))
    (cond (b == 0x6d) (Some (Now (Break break.Off)))
    (cond (b == 0x73) (Some (Now (Motor motor.ThreePhase)))
    (cond (b == 0x74) (Some (Now (Motor motor.TwoPhase)))
    (cond (b == 0x77) (Some (Word word.BufferedPower)) None))))))))))))))))))))))))))))))))))))

-- the table, shut, so that a proof above it does not look at each code
unfoldable pub command_of : ℕ → Option Command
command_of b = code_table b

-- a code that no command has is refused
abbrev pub Decodes : ℕ → Result Command Refusal → Type 0
Decodes b r = r ≡ ok_or (command_of b) Unknown

-- a command's code names it
abbrev pub Encodes : Command → ℕ → Type 0
Encodes c b = code_table b ≡ Some c

-- the words that a packet takes
abbrev pub takes : Command → ℕ
takes (Status named) = 0
takes (Ask q) = 0
takes (Now o) = 0
takes (Word o) = 1
takes (Long o) = 2
takes MultiUpdate = 1

-- the words that it gives
abbrev pub gives : Command → ℕ
gives (Status named) = 1
gives (Ask q) = 2
gives (Now o) = 0
gives (Word o) = 0
gives (Long o) = 0
gives MultiUpdate = 0
