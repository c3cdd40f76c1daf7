-- What a gate can be asked.
use Rattle.std.specs.Prelude.{ℕ, ◌+◌, ◌*◌, ◌^◌, Bool, not}
use Rattle.std.specs.Int.{w32}
use Rattle.std.proofs.Common.{of_z}
use Rattle.motion.specs.Course.{microsteps}
use Rattle.gate.specs.declared.gate.Gate.{Gate}
use Rattle.gate.specs.declared.queries.Query.{Query}
use Rattle.gate.specs.declared.queries.Query.TheVariants.{Destination, Velocity, Acceleration, TargetPosition, TargetVelocity, ActualPosition, ClockTime}
use Rattle.gate.specs.Clock.{time}
use Rattle.gate.specs.Cycles.{is_at_rest}
use Rattle.gate.specs.declared.events.Events.{Events}
use Rattle.gate.specs.Events.{events_word, has_bit_in, events_without, weight}

-- the number that answers, signed ones in two's complement
abbrev pub query_answer : Query → Gate → ℕ
query_answer Destination g = of_z w32 g.buffered.destination
query_answer Velocity g = g.buffered.velocity
query_answer Acceleration g = of_z w32 g.buffered.acceleration
query_answer TargetPosition g = of_z w32 (microsteps g.motion.target)
query_answer TargetVelocity g = of_z w32 g.motion.velocity
query_answer ActualPosition g = of_z w32 g.actual
query_answer ClockTime g = time g.clock

-- the places of in-motion and of the axis in the status word
abbrev pub in_motion_place : ℕ
in_motion_place = 10

abbrev pub axis_place : ℕ
axis_place = 12

-- the event bits, in-motion, and the current axis: 0 for gate 1, 1 for gate 2
abbrev pub status_word : ℕ → Gate → ℕ
status_word axis g = events_word g.events + weight (not (is_at_rest g)) in_motion_place + axis * 2 ^ axis_place

-- an event bit is set whose place in the mask holds 1
abbrev pub is_calling : Gate → Bool
is_calling g = has_bit_in g.mask g.events

-- the event bits that are set and were not at the last collect
abbrev pub new_events : Gate → Events
new_events g = events_without g.events g.found
