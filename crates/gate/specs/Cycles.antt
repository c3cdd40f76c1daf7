-- One cycle of a gate, step by step.
use Rattle.std.specs.Prelude.{ℕ, Bool, true, false, cond, not, ◌&&◌, ◌||◌, ℤ, pos, ◌==◌, int_le, unsigned_abs}
use Rattle.std.specs.Int.{w32}
use Rattle.std.proofs.Common.{to_z}
use Rattle.motion.specs.Course.{next_target, next_actual, is_crossing_end, cruise, distance_to, trapezoid, microsteps}
use Rattle.wave.specs.Phases.{phases}
use Rattle.gate.specs.declared.gate.BreakMode.{BreakMode}
use Rattle.gate.specs.declared.gate.BreakMode.TheVariants.{Off, Time, TargetAbove, TargetBelow, ActualAbove, ActualBelow, Complete, External}
use Rattle.gate.specs.declared.events.Events.{Events}
use Rattle.gate.specs.declared.gate.Gate.{Gate}
use Rattle.gate.specs.declared.inputs.Inputs.{Inputs}
use Rattle.gate.specs.declared.profile.ProfileMode.{ProfileMode}
use Rattle.gate.specs.declared.profile.ProfileMode.TheVariants.{Trapezoidal, Velocity}
use Rattle.gate.specs.Clock.{clock_tick, time}
use Rattle.gate.specs.Gates.{latch, has_limit_bit, halted_motion, with_actual, with_clock}

-- 1. the clock counts the cycle
abbrev pub tick : Gate → Gate
tick g = with_clock g (clock_tick g.clock)

-- 2. the encoder's count is added
abbrev pub add_count : ℤ → Gate → Gate
add_count count g = with_actual g (next_actual g.actual count)

-- 3. a limit trips: its input is active, its detector armed and no limit bit set
abbrev pub is_tripping : Bool → Bool → Events → Bool
is_tripping input armed e = input && armed && not (has_limit_bit e)

-- the gate after the positive and the negative limit tripped or not
abbrev pub with_limits : Bool → Bool → Inputs → Gate → Gate
with_limits p n i g =
    record g {
      motion = cond (p || n) (halted_motion g.motion) g.motion;
      events = record g.events { positive = g.events.positive || p; negative = g.events.negative || n };
      detectors = record {
        positive = not i.positive || (g.detectors.positive && not p);
        negative = not i.negative || (g.detectors.negative && not n);
      };
    }

-- the positive limit is tried first
abbrev pub trip : Inputs → Gate → Gate
trip i g =
    with_limits (is_tripping i.positive g.detectors.positive g.events)
    (not (is_tripping i.positive g.detectors.positive g.events) && is_tripping i.negative g.detectors.negative g.events) i g

-- 4. whether a breakpoint's condition holds: by its point, the time, the target and the actual position, which compare signed,
-- the motion complete bit and the home switch
abbrev pub is_condition_met : BreakMode → ℕ → ℕ → ℤ → ℤ → Bool → Bool → Bool
is_condition_met Off point t target actual complete home = false
is_condition_met Time point t target actual complete home = t == point
is_condition_met TargetAbove point t target actual complete home = int_le (to_z w32 point) target
is_condition_met TargetBelow point t target actual complete home = int_le target (to_z w32 point)
is_condition_met ActualAbove point t target actual complete home = int_le (to_z w32 point) actual
is_condition_met ActualBelow point t target actual complete home = int_le actual (to_z w32 point)
is_condition_met Complete point t target actual complete home = complete
is_condition_met External point t target actual complete home = home

abbrev pub is_breakpoint_met : Bool → Gate → Bool
is_breakpoint_met home g =
    is_condition_met g.breakpoint.mode g.breakpoint.point (time g.clock) (microsteps g.motion.target) g.actual g.events.complete home

-- the mode is off, and the bit set
abbrev pub with_breakpoint_reached : Gate → Gate
with_breakpoint_reached g =
    record g { breakpoint = record g.breakpoint { mode = Off }; events = record g.events { breakpoint_reached = true } }

abbrev pub meet : Bool → Gate → Gate
meet home g = cond (is_breakpoint_met home g) (cond g.breakpoint.auto (latch (with_breakpoint_reached g)) (with_breakpoint_reached g)) g

-- 5. the new velocity
abbrev pub profile_velocity : ProfileMode → Gate → ℤ
profile_velocity Velocity g = cruise g.motion.velocity g.active.velocity g.active.acceleration
profile_velocity Trapezoidal g =
    trapezoid g.motion.velocity g.active.velocity (unsigned_abs g.active.acceleration) (distance_to g.active.destination g.motion.target)

abbrev pub next_velocity : Gate → ℤ
next_velocity g = cond g.motion.halted (pos 0) (profile_velocity g.active.mode g)

-- the move by a velocity
abbrev pub advance_by : ℤ → Gate → Gate
advance_by v g =
    record g {
      motion = record g.motion { target = next_target g.motion.target v; velocity = v };
      events = record g.events { wrapped = g.events.wrapped || is_crossing_end g.motion.target v };
    }

abbrev pub advance : Gate → Gate
advance g = advance_by (next_velocity g) g

-- 6. nothing is left to travel: in trapezoidal mode only
abbrev pub has_arrived : ProfileMode → Gate → Bool
has_arrived Velocity g = false
has_arrived Trapezoidal g = unsigned_abs (distance_to g.active.destination g.motion.target) == 0

abbrev pub is_at_rest : Gate → Bool
is_at_rest g = unsigned_abs g.motion.velocity == 0 && (g.motion.halted || (g.active.velocity == 0 || has_arrived g.active.mode g))

-- motion complete is set where the gate comes to rest
abbrev pub settle : Gate → Gate
settle g =
    record g {
      motion = record g.motion { rested = is_at_rest g };
      events = record g.events { complete = g.events.complete || (is_at_rest g && not g.motion.rested) };
    }

-- the steps in their order
abbrev pub cycle : Inputs → Gate → Gate
cycle i g = settle (advance (meet i.home (trip i (add_count i.count (tick g)))))

-- 7. the phases to show
abbrev pub gate_phases : Gate → ℤ × ℤ
gate_phases g = phases g.kind g.powers.active (microsteps g.motion.target)
