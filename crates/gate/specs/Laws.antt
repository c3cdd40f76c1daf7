-- Laws of a gate, above the definitions of what is done to it.
use Rattle.std.specs.Prelude.{◌≡◌, ℕ, ◌≤◌, max, false, not, ◌&&◌, ◌||◌, ◌-ℤ◌, unsigned_abs, Some, None, Option, ◌≢◌}
use Rattle.motion.specs.Course.{next_target, next_actual, is_crossing_end, microsteps}
use Rattle.gate.specs.declared.gate.Gate.{Gate}
use Rattle.gate.specs.declared.inputs.Inputs.{Inputs}
use Rattle.gate.specs.declared.load.Load.{Load}
use Rattle.gate.specs.declared.load.Load.TheVariants as load
use Rattle.gate.specs.declared.queries.Query.{Query}
use Rattle.gate.specs.declared.queries.Query.TheVariants.{Destination, Velocity, Acceleration}
use Rattle.gate.specs.Clock.{clock_tick, time}
use Rattle.gate.specs.Cycles.{is_at_rest, is_condition_met, gate_phases, is_tripping}
use Rattle.gate.specs.Queries.{query_answer, is_calling, new_events, status_word}

-- a gate never runs faster than it did or than its velocity register says, and unless it halts its velocity changes by at most the
-- acceleration; the registers are those that the move went by
pub record RespectsProfile (g h : Gate) : Type 0 where
  pub size : unsigned_abs h.motion.velocity ≤ max (unsigned_abs g.motion.velocity) h.active.velocity
  pub step : h.motion.halted ≡ false → unsigned_abs (h.motion.velocity -ℤ g.motion.velocity) ≤ unsigned_abs h.active.acceleration

-- the order of a cycle's steps, by what each sees
pub record StepsInOrder (i : Inputs) (g h : Gate) : Type 0 where
  -- a limit looks at the bits and detectors as they stood, and the positive one goes first
  pub limits : h.events.positive ≡ (g.events.positive || is_tripping i.positive g.detectors.positive g.events)
  -- a breakpoint sees the time and the count of this cycle, and the target position before the move
  pub breaks :
      h.events.breakpoint_reached
      ≡ (g.events.breakpoint_reached
      || is_condition_met g.breakpoint.mode g.breakpoint.point (time (clock_tick g.clock)) (microsteps g.motion.target)
      (next_actual g.actual i.count) g.events.complete i.home)
  -- the target moves by the new velocity, and that move alone wraps
  pub moves : h.motion.target ≡ next_target g.motion.target h.motion.velocity
  pub wraps : h.events.wrapped ≡ (g.events.wrapped || is_crossing_end g.motion.target h.motion.velocity)
  -- rest is judged after the move, and motion complete is set where rest begins
  pub rests : h.motion.rested ≡ is_at_rest h
  pub completes : h.events.complete ≡ (g.events.complete || (is_at_rest h && not g.motion.rested))

-- between g and h no question answers otherwise but the one that is named, if one is
pub record SameAnswersBut (named : Option Query) (g h : Gate) : Type 0 where
  pub answers : (q : Query) → named ≢ Some q → query_answer q h ≡ query_answer q g
  pub status : (axis : ℕ) → status_word axis h ≡ status_word axis g
  pub calls : is_calling h ≡ is_calling g
  pub new_bits : new_events h ≡ new_events g
  pub phases : gate_phases h ≡ gate_phases g

-- the one question that sees the register that is loaded, if one does
abbrev pub load_query : Load → Option Query
load_query (load.Destination x) = Some Destination
load_query (load.Velocity x) = Some Velocity
load_query (load.Acceleration x) = Some Acceleration
load_query (load.Mode m) = None
load_query (load.Power x) = None
