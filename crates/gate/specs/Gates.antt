-- The record of one gate, and what is done to it.
use Rattle.std.specs.Prelude.{ℕ, Bool, true, false, ◌&&◌, ◌||◌, ℤ, pos, ◌*ℤ◌}
use Rattle.wave.specs.declared.phases.MotorKind.{MotorKind}
use Rattle.wave.specs.declared.phases.MotorKind.TheVariants.{TwoPhase}
use Rattle.gate.specs.declared.gate.BreakMode.TheVariants.{Off}
use Rattle.gate.specs.declared.gate.Breakpoint.{Breakpoint}
use Rattle.gate.specs.declared.clock.Clock.{Clock}
use Rattle.gate.specs.declared.events.Events.{Events}
use Rattle.gate.specs.declared.gate.Gate.{Gate}
use Rattle.gate.specs.declared.gate.Motion.{Motion}
use Rattle.gate.specs.declared.gate.Powers.{Powers}
use Rattle.gate.specs.declared.profile.ProfileMode.{ProfileMode}
use Rattle.gate.specs.Events.{no_events}
use Rattle.gate.specs.Profile.{first_profile}

-- after a reset; only the slip mark is kept over one
abbrev pub fresh_gate : Bool → Gate
fresh_gate slip =
    record {
      buffered = first_profile;
      active = first_profile;
      powers = record { buffered = 0; active = 0 };
      motion = record { target = pos 0; velocity = pos 0; halted = false; rested = true };
      actual = pos 0;
      breakpoint = record { mode = Off; point = 0; auto = true };
      events = no_events;
      found = no_events;
      mask = 0;
      detectors = record { positive = true; negative = true };
      kind = TwoPhase;
      slip = slip;
      clock = record { cycles = 0 };
    }

-- a gate with one part replaced
abbrev pub with_powers : Gate → Powers → Gate
with_powers g x = record g { powers = x }

abbrev pub with_motion : Gate → Motion → Gate
with_motion g x = record g { motion = x }

abbrev pub with_actual : Gate → ℤ → Gate
with_actual g x = record g { actual = x }

abbrev pub with_breakpoint : Gate → Breakpoint → Gate
with_breakpoint g x = record g { breakpoint = x }

abbrev pub with_events : Gate → Events → Gate
with_events g x = record g { events = x }

abbrev pub with_found : Gate → Events → Gate
with_found g x = record g { found = x }

abbrev pub with_mask : Gate → ℕ → Gate
with_mask g x = record g { mask = x }

abbrev pub with_kind : Gate → MotorKind → Gate
with_kind g x = record g { kind = x }

abbrev pub with_slip : Gate → Bool → Gate
with_slip g x = record g { slip = x }

abbrev pub with_clock : Gate → Clock → Gate
with_clock g x = record g { clock = x }

-- a gate with one buffered register replaced
abbrev pub with_destination : ℤ → Gate → Gate
with_destination x g = record g { buffered = record g.buffered { destination = x } }

abbrev pub with_velocity : ℕ → Gate → Gate
with_velocity x g = record g { buffered = record g.buffered { velocity = x } }

abbrev pub with_acceleration : ℤ → Gate → Gate
with_acceleration x g = record g { buffered = record g.buffered { acceleration = x } }

abbrev pub with_mode : ProfileMode → Gate → Gate
with_mode x g = record g { buffered = record g.buffered { mode = x } }

abbrev pub with_power : ℕ → Gate → Gate
with_power x g = record g { powers = record g.powers { buffered = x } }

-- a limit bit is set
abbrev pub has_limit_bit : Events → Bool
has_limit_bit e = e.positive || e.negative

-- every buffered register is copied into its active one, and a halt ends unless a limit bit is set
abbrev pub latch : Gate → Gate
latch g =
    record g {
      active = g.buffered;
      powers = record g.powers { active = g.powers.buffered };
      motion = record g.motion { halted = g.motion.halted && has_limit_bit g.events };
    }

-- halted: the velocity is 0, and the gate stays where it is
abbrev pub halted_motion : Motion → Motion
halted_motion m = record m { velocity = pos 0; halted = true }

-- target and actual position are set, and the gate halts there
abbrev pub gate_halted_at : ℤ → Gate → Gate
gate_halted_at x g = record g { actual = x; motion = halted_motion (record g.motion { target = pos 65536 *ℤ x }) }

-- the command error bit is set
abbrev pub with_command_error : Gate → Gate
with_command_error g = record g { events = record g.events { error = true } }
