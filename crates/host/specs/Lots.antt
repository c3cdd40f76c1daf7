-- What becomes of a lot.
use Rattle.std.specs.Prelude.{ℕ, cond, Some, None, Option, is_some, ◌==◌, unsigned_abs}
use Rattle.motion.specs.Course.{microsteps}
use Rattle.gate.specs.declared.gate.Gate.{Gate}
use Rattle.gate.specs.Clock.{time}
use Rattle.host.specs.declared.lot.Outcome.{Outcome}

-- a number that is noted once
abbrev pub first_noted : Option ℕ → ℕ → Option ℕ
first_noted (Some n) m = Some n
first_noted None m = Some m

-- the first cycle in which the gate moved, the first in which it stood again, and its target position
abbrev pub outcome_after : Outcome → Gate → Outcome
outcome_after o g = record o {
  set_off = cond (unsigned_abs g.motion.velocity == 0) o.set_off (first_noted o.set_off (time g.clock));
  arrived =
      cond (unsigned_abs g.motion.velocity == 0) (cond (is_some o.set_off) (first_noted o.arrived (time g.clock)) o.arrived) o.arrived;
  target = microsteps g.motion.target;
}
