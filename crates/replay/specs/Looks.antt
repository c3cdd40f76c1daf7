-- The bytes of a look: the pairs and the records of a board.
use Rattle.std.specs.Prelude.{ℕ, Bool, cond, List, [], ◌∷◌, ◌++◌, ℤ}
use Rattle.std.specs.Int.{w32, w64}
use Rattle.std.proofs.Common.{of_z}
use Rattle.stage.specs.declared.Stage.{Ghosts}
use Rattle.stage.specs.Pairs.{Pair}
use Rattle.wave.specs.declared.phases.MotorKind.{MotorKind}
use Rattle.wave.specs.declared.phases.MotorKind.TheVariants.{TwoPhase, ThreePhase}
use Rattle.gate.specs.declared.gate.BreakMode.{BreakMode}
use Rattle.gate.specs.declared.gate.BreakMode.TheVariants as break
use Rattle.gate.specs.declared.gate.Breakpoint.{Breakpoint}
use Rattle.gate.specs.declared.gate.Gate.{Gate}
use Rattle.gate.specs.declared.gate.Motion.{Motion}
use Rattle.gate.specs.declared.profile.Profile.{Profile}
use Rattle.gate.specs.declared.profile.ProfileMode.{ProfileMode}
use Rattle.gate.specs.declared.profile.ProfileMode.TheVariants as mode
use Rattle.gate.specs.Events.{events_word}
use Rattle.board.specs.declared.board.Board.{Board}
use Rattle.replay.specs.Numbers.{two_bytes, four_bytes, eight_bytes}
use Rattle.board.specs.Runs.{board_state, stage_of}

abbrev pub mode_byte : ProfileMode → ℕ
mode_byte mode.Trapezoidal = 0
mode_byte mode.Velocity = 1

abbrev pub break_byte : BreakMode → ℕ
break_byte break.Off = 0
break_byte break.Time = 1
break_byte break.TargetAbove = 2
break_byte break.TargetBelow = 3
break_byte break.ActualAbove = 4
break_byte break.ActualBelow = 5
break_byte break.Complete = 6
break_byte break.External = 7

abbrev pub motor_byte : MotorKind → ℕ
motor_byte TwoPhase = 0
motor_byte ThreePhase = 1

abbrev pub flag_byte : Bool → ℕ
flag_byte b = cond b 1 0

abbrev pub signed_four_bytes : ℤ → List ℕ
signed_four_bytes z = four_bytes (of_z w32 z)

abbrev pub pair_bytes : Pair → List ℕ
pair_bytes p = signed_four_bytes p.0 ++ signed_four_bytes p.1

abbrev pub profile_bytes : Profile → List ℕ
profile_bytes p =
    signed_four_bytes p.destination ++ (four_bytes p.velocity ++ (signed_four_bytes p.acceleration ++ (mode_byte p.mode ∷ [])))

abbrev pub motion_bytes : Motion → List ℕ
motion_bytes m = eight_bytes (of_z w64 m.target) ++ (signed_four_bytes m.velocity ++ (flag_byte m.halted ∷ flag_byte m.rested ∷ []))

abbrev pub breakpoint_bytes : Breakpoint → List ℕ
breakpoint_bytes b = break_byte b.mode ∷ (four_bytes b.point ++ (flag_byte b.auto ∷ []))

-- event bits, those that were set at the last collect, mask, detectors, kind of motor, slip mark, clock
abbrev pub flags_bytes : Gate → List ℕ
flags_bytes g =
    events_word g.events ∷ events_word g.found ∷ (two_bytes g.mask
    ++ (flag_byte g.detectors.positive ∷ flag_byte g.detectors.negative ∷ motor_byte g.kind ∷ flag_byte g.slip ∷ four_bytes g.clock.cycles))

abbrev pub record_bytes : Gate → List ℕ
record_bytes g =
    profile_bytes g.buffered ++ (profile_bytes g.active ++ (two_bytes g.powers.buffered ++ (two_bytes g.powers.active
    ++ (motion_bytes g.motion ++ (signed_four_bytes g.actual ++ (breakpoint_bytes g.breakpoint ++ flags_bytes g))))))

-- the byte that says a look, the pairs, the record of gate 1, that of gate 2
abbrev pub look_bytes : {S : Type 0} (m : Ghosts S) → Board S m → List ℕ
look_bytes m b =
    0x13 ∷ (pair_bytes (m.pairs (stage_of b)).one ++ (pair_bytes (m.pairs (stage_of b)).two
    ++ (record_bytes (board_state b).one ++ record_bytes (board_state b).two)))
