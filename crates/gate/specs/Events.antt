-- The event bits of a gate and their places.
use Rattle.std.specs.Prelude.{ℕ, ◌+◌, ◌/◌, ◌%◌, ◌^◌, Bool, false, cond, not, ◌&&◌, ◌||◌, ◌==◌, List, [], ◌∷◌, map}
use Rattle.gate.specs.declared.events.Event.{Event}
use Rattle.gate.specs.declared.events.Event.TheVariants.{MotionComplete, WrapAround, Breakpoint, PositiveLimit, NegativeLimit, CommandError}
use Rattle.gate.specs.declared.events.Events.{Events}

abbrev pub place : Event → ℕ
place MotionComplete = 0
place WrapAround = 1
place Breakpoint = 2
place PositiveLimit = 5
place NegativeLimit = 6
place CommandError = 7

abbrev pub no_events : Events
no_events = record { complete = false; wrapped = false; breakpoint_reached = false; positive = false; negative = false; error = false }

-- all events, the lowest place first
abbrev pub all_events : List Event
all_events = MotionComplete ∷ WrapAround ∷ Breakpoint ∷ PositiveLimit ∷ NegativeLimit ∷ CommandError ∷ []

-- whether an event's bit is set
abbrev pub is_set : Events → Event → Bool
is_set e MotionComplete = e.complete
is_set e WrapAround = e.wrapped
is_set e Breakpoint = e.breakpoint_reached
is_set e PositiveLimit = e.positive
is_set e NegativeLimit = e.negative
is_set e CommandError = e.error

-- each event with its bit
abbrev pub event_bits : Events → List (Event × Bool)
event_bits e = map (λ x. (x, is_set e x)) all_events

-- the bits that are set in the one and not in the other
abbrev pub events_without : Events → Events → Events
events_without e other =
    record {
      complete = e.complete && not other.complete;
      wrapped = e.wrapped && not other.wrapped;
      breakpoint_reached = e.breakpoint_reached && not other.breakpoint_reached;
      positive = e.positive && not other.positive;
      negative = e.negative && not other.negative;
      error = e.error && not other.error;
    }

-- whether a word holds 1 at a place
abbrev pub bit : ℕ → ℕ → Bool
bit word n = word / 2 ^ n % 2 == 1

-- a bit at its place
abbrev pub weight : Bool → ℕ → ℕ
weight b n = cond b (2 ^ n) 0

abbrev pub events_word : Events → ℕ
events_word e =
    weight e.complete (place MotionComplete) + weight e.wrapped (place WrapAround) + weight e.breakpoint_reached (place Breakpoint)
    + weight e.positive (place PositiveLimit) + weight e.negative (place NegativeLimit) + weight e.error (place CommandError)

-- the bits whose places hold 0 in the word are cleared
abbrev pub keep : ℕ → Events → Events
keep word e =
    record {
      complete = e.complete && bit word (place MotionComplete);
      wrapped = e.wrapped && bit word (place WrapAround);
      breakpoint_reached = e.breakpoint_reached && bit word (place Breakpoint);
      positive = e.positive && bit word (place PositiveLimit);
      negative = e.negative && bit word (place NegativeLimit);
      error = e.error && bit word (place CommandError);
    }

-- a bit is set whose place holds 1 in the mask
abbrev pub has_bit_in : ℕ → Events → Bool
has_bit_in mask e =
    (e.complete && bit mask (place MotionComplete)) || ((e.wrapped && bit mask (place WrapAround))
    || ((e.breakpoint_reached && bit mask (place Breakpoint)) || ((e.positive && bit mask (place PositiveLimit))
    || ((e.negative && bit mask (place NegativeLimit)) || (e.error && bit mask (place CommandError))))))
