-- No two commands have the same mnemonic.
use Rattle.std.proofs.Common.{◌≡◌, ◌∙◌, ℕ, true, false, List, [], ◌∷◌, Some, Option, refl, sym, ap}
use Rattle.std.specs.List.{find}
use Rattle.std.specs.Str.{bytes_eq}
use Rattle.wave.specs.declared.phases.MotorKind.TheVariants as motor
use Rattle.gate.specs.declared.gate.BreakMode.TheVariants as break
use Rattle.gate.specs.declared.profile.ProfileMode.TheVariants as mode
use Rattle.gate.specs.declared.orders.Order.TheVariants.{Mode, Stop, Update, Auto, Break, Motor}
use Rattle.gate.specs.declared.orders.WordOrder.TheVariants as word
use Rattle.gate.specs.declared.orders.LongOrder.TheVariants as long
use Rattle.gate.specs.declared.queries.Query.TheVariants as query
use Rattle.board.specs.declared.command.GateName.TheVariants.{First, Second, Calling, Current}
use Rattle.board.specs.declared.command.Command.{Command}
use Rattle.board.specs.declared.command.Command.TheVariants.{Status, Ask, Now, Word, Long, MultiUpdate}
use Rattle.script.specs.Mnemonics.{mnemonic}

abbrev commands : List Command
commands =
    (Status First) ∷ ((Status Second) ∷ ((Status Calling) ∷ ((Status Current) ∷ ((Now (Mode mode.Trapezoidal)) ∷ ((Now (Mode mode.Velocity)) ∷ ((Now Stop) ∷ ((Now Update) ∷ ((Now (Auto true)) ∷ ((Now (Auto false)) ∷ ((Now (Break break.Off)) ∷ ((Now (Break break.Time)) ∷ ((Now (Break break.TargetAbove)) ∷ ((Now (Break break.TargetBelow)) ∷ ((Now (Break break.ActualAbove)) ∷ ((Now (Break break.ActualBelow)) ∷ ((Now (Break break.Complete)) ∷ ((Now (Break break.External)) ∷ ((Now (Motor motor.TwoPhase)) ∷ ((Now (Motor motor.ThreePhase)) ∷ ((Word word.BufferedPower) ∷ ((Word word.Power) ∷ ((Word word.ClearEvents) ∷ ((Word word.Mask) ∷ (MultiUpdate ∷ ((Long long.Destination) ∷ ((Long long.Velocity) ∷ ((Long long.Acceleration) ∷ ((Long long.Point) ∷ ((Long long.Actual) ∷ ((Ask query.Destination) ∷ ((Ask query.Velocity) ∷ ((Ask query.Acceleration) ∷ ((Ask query.TargetPosition) ∷ ((Ask query.TargetVelocity) ∷ ((Ask query.ActualPosition) ∷ ((Ask query.ClockTime) ∷ []))))))))))))))))))))))))))))))))))))

-- the command that a text names
abbrev named_by : List ℕ → Option Command
named_by text = find (λ c. bytes_eq (mnemonic c) text) commands

own_name : (c : Command) → named_by (mnemonic c) ≡ Some c
own_name (Status First) = refl
own_name (Status Second) = refl
own_name (Status Calling) = refl
own_name (Status Current) = refl
own_name (Now (Mode mode.Trapezoidal)) = refl
own_name (Now (Mode mode.Velocity)) = refl
own_name (Now Stop) = refl
own_name (Now Update) = refl
own_name (Now (Auto true)) = refl
own_name (Now (Auto false)) = refl
own_name (Now (Break break.Off)) = refl
own_name (Now (Break break.Time)) = refl
own_name (Now (Break break.TargetAbove)) = refl
own_name (Now (Break break.TargetBelow)) = refl
own_name (Now (Break break.ActualAbove)) = refl
own_name (Now (Break break.ActualBelow)) = refl
own_name (Now (Break break.Complete)) = refl
own_name (Now (Break break.External)) = refl
own_name (Now (Motor motor.TwoPhase)) = refl
own_name (Now (Motor motor.ThreePhase)) = refl
own_name (Word word.BufferedPower) = refl
own_name (Word word.Power) = refl
own_name (Word word.ClearEvents) = refl
own_name (Word word.Mask) = refl
own_name MultiUpdate = refl
own_name (Long long.Destination) = refl
own_name (Long long.Velocity) = refl
own_name (Long long.Acceleration) = refl
own_name (Long long.Point) = refl
own_name (Long long.Actual) = refl
own_name (Ask query.Destination) = refl
own_name (Ask query.Velocity) = refl
own_name (Ask query.Acceleration) = refl
own_name (Ask query.TargetPosition) = refl
own_name (Ask query.TargetVelocity) = refl
own_name (Ask query.ActualPosition) = refl
own_name (Ask query.ClockTime) = refl

pub mnemonic_names_one : (c d : Command) → mnemonic c ≡ mnemonic d → c ≡ d
mnemonic_names_one c d e = some_is_one (sym (own_name c) ∙ (ap named_by e ∙ own_name d))
  where
    some_is_one : Some c ≡ Some d → c ≡ d
    some_is_one p = cc
