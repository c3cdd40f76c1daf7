-- The derived `==` of a record decides whether two of them are equal.
use Rattle.std.proofs.Common.{◌≡◌, Decides, Bool, rules}
use Rattle.std.proofs.lemmas.Bool.Decides.{Decides-eqb, Decides-int_eq, Decides-and, Decides-like}
use Rattle.std.specs.contracts.prelude.BoolPartialEq.TheImpl as bool_eq
use Rattle.wave.specs.declared.phases.MotorKind.{MotorKind}
use Rattle.wave.specs.contracts.phases.MotorKindPartialEq.TheImpl as motor_kind_eq
use Rattle.gate.specs.declared.profile.Profile.{Profile}
use Rattle.gate.specs.contracts.profile.ProfilePartialEq.TheImpl as profile_eq
use Rattle.gate.specs.declared.gate.Powers.{Powers}
use Rattle.gate.specs.contracts.gate.PowersPartialEq.TheImpl as powers_eq
use Rattle.gate.specs.declared.gate.Motion.{Motion}
use Rattle.gate.specs.contracts.gate.MotionPartialEq.TheImpl as motion_eq
use Rattle.gate.specs.declared.gate.Breakpoint.{Breakpoint}
use Rattle.gate.specs.contracts.gate.BreakpointPartialEq.TheImpl as breakpoint_eq
use Rattle.gate.specs.declared.events.Events.{Events}
use Rattle.gate.specs.contracts.events.EventsPartialEq.TheImpl as events_eq
use Rattle.gate.specs.declared.gate.Detectors.{Detectors}
use Rattle.gate.specs.contracts.gate.DetectorsPartialEq.TheImpl as detectors_eq
use Rattle.gate.specs.declared.clock.Clock.{Clock}
use Rattle.gate.specs.contracts.clock.ClockPartialEq.TheImpl as clock_eq
use Rattle.gate.specs.declared.gate.Gate.{Gate}
use Rattle.gate.specs.contracts.gate.GatePartialEq.TheImpl as gate_eq

pub bool_decides : (x y : Bool) → Decides ((bool_eq.ghosts).eq x y) (x ≡ y)
bool_decides x y = search rules

pub motor_kind_decides : (x y : MotorKind) → Decides ((motor_kind_eq.ghosts).eq x y) (x ≡ y)
motor_kind_decides x y = search rules

pub profile_decides : (x y : Profile) → Decides ((profile_eq.ghosts).eq x y) (x ≡ y)
profile_decides x y = search rules

pub powers_decides : (x y : Powers) → Decides ((powers_eq.ghosts).eq x y) (x ≡ y)
powers_decides x y = search rules

pub motion_decides : (x y : Motion) → Decides ((motion_eq.ghosts).eq x y) (x ≡ y)
motion_decides x y =
    Decides-like _ (λ h. search rules) (λ e. search rules)
    (Decides-and _ _ (Decides-int_eq x.target y.target) (Decides-and _ _ (Decides-int_eq x.velocity y.velocity) (Decides-and _ _ (bool_decides x.halted y.halted) (bool_decides x.rested y.rested))))

pub breakpoint_decides : (x y : Breakpoint) → Decides ((breakpoint_eq.ghosts).eq x y) (x ≡ y)
breakpoint_decides x y = search rules

pub events_decides : (x y : Events) → Decides ((events_eq.ghosts).eq x y) (x ≡ y)
events_decides x y =
    Decides-like _ (λ h. search rules) (λ e. search rules)
    (Decides-and _ _ (bool_decides x.complete y.complete) (Decides-and _ _ (bool_decides x.wrapped y.wrapped) (Decides-and _ _ (bool_decides x.breakpoint_reached y.breakpoint_reached) (Decides-and _ _ (bool_decides x.positive y.positive) (Decides-and _ _ (bool_decides x.negative y.negative) (bool_decides x.error y.error))))))

pub detectors_decides : (x y : Detectors) → Decides ((detectors_eq.ghosts).eq x y) (x ≡ y)
detectors_decides x y = search rules

pub clock_decides : (x y : Clock) → Decides ((clock_eq.ghosts).eq x y) (x ≡ y)
clock_decides x y = search rules

pub gate_decides : (x y : Gate) → Decides ((gate_eq.ghosts).eq x y) (x ≡ y)
gate_decides x y =
    Decides-like _ (λ h. search rules) (λ e. search rules)
    (Decides-and _ _ (profile_decides x.buffered y.buffered) (Decides-and _ _ (profile_decides x.active y.active) (Decides-and _ _ (powers_decides x.powers y.powers) (Decides-and _ _ (motion_decides x.motion y.motion) (Decides-and _ _ (Decides-int_eq x.actual y.actual) (Decides-and _ _ (breakpoint_decides x.breakpoint y.breakpoint) (Decides-and _ _ (events_decides x.events y.events) (Decides-and _ _ (events_decides x.found y.found) (Decides-and _ _ (Decides-eqb x.mask y.mask) (Decides-and _ _ (detectors_decides x.detectors y.detectors) (Decides-and _ _ (motor_kind_decides x.kind y.kind) (Decides-and _ _ (bool_decides x.slip y.slip) (clock_decides x.clock y.clock)))))))))))))
