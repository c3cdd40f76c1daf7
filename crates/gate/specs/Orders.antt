-- What a gate is told: the record after it, and the answer.
use Rattle.std.specs.Prelude.{ℕ, Bool, true, cond, Some, None, Option, Ok, Err, Result}
use Rattle.std.specs.Int.{w32}
use Rattle.std.proofs.Common.{to_z}
use Rattle.gate.specs.declared.gate.Gate.{Gate}
use Rattle.gate.specs.declared.load.Load.{Load}
use Rattle.gate.specs.declared.load.Load.TheVariants as load
use Rattle.gate.specs.declared.orders.Order.{Order}
use Rattle.gate.specs.declared.orders.Order.TheVariants.{Mode, Stop, Update, Auto, Break, Motor}
use Rattle.gate.specs.declared.orders.WordOrder.{WordOrder}
use Rattle.gate.specs.declared.orders.WordOrder.TheVariants as word
use Rattle.gate.specs.declared.orders.LongOrder.{LongOrder}
use Rattle.gate.specs.declared.orders.LongOrder.TheVariants as long
use Rattle.gate.specs.declared.orders.OutOfRange.{OutOfRange}
use Rattle.gate.specs.Events.{keep}
use Rattle.gate.specs.Gates.{with_command_error, latch, gate_halted_at, with_breakpoint, with_events, with_kind, with_mask, with_powers}
use Rattle.gate.specs.Loads.{is_in_signed_range, is_load_in_range, with_load}

abbrev pub run : Order → Gate → Gate
run (Mode m) g = with_load (load.Mode m) g
run Stop g = with_load (load.Velocity 0) g
run Update g = latch g
run (Auto on) g = with_breakpoint g (record g.breakpoint { auto = on })
run (Break m) g = with_breakpoint g (record g.breakpoint { mode = m })
run (Motor kind) g = with_kind g kind

-- a value if it fits, and the refusal if not
abbrev pub value_if_fits : {A : Type 0} → Bool → A → Result A OutOfRange
value_if_fits fits x = cond fits (Ok x) (Err (record {}))

-- a power has its register's range; any word clears, and any word masks
abbrev pub is_word_in_range : WordOrder → ℕ → Bool
is_word_in_range word.BufferedPower w = is_load_in_range (load.Power w)
is_word_in_range word.Power w = is_load_in_range (load.Power w)
is_word_in_range word.ClearEvents w = true
is_word_in_range word.Mask w = true

abbrev pub with_word : WordOrder → ℕ → Gate → Gate
with_word word.BufferedPower w g = with_load (load.Power w) g
with_word word.Power w g = with_powers g (record { buffered = w; active = w })
with_word word.ClearEvents w g = with_events g (keep w g.events)
with_word word.Mask w g = with_mask g w

abbrev pub word_answer : WordOrder → ℕ → Result (Unit {0}) OutOfRange
word_answer o w = value_if_fits (is_word_in_range o w) tt

abbrev pub run_word : WordOrder → ℕ → Gate → Gate
run_word o w g = cond (is_word_in_range o w) (with_word o w g) (with_command_error g)

-- a value has its register's range, and a position that of a destination; any 32 bits are a point
abbrev pub is_long_in_range : LongOrder → ℕ → Bool
is_long_in_range long.Destination v = is_load_in_range (load.Destination (to_z w32 v))
is_long_in_range long.Velocity v = is_load_in_range (load.Velocity v)
is_long_in_range long.Acceleration v = is_load_in_range (load.Acceleration (to_z w32 v))
is_long_in_range long.Point v = true
is_long_in_range long.Actual v = is_in_signed_range (to_z w32 v)

abbrev pub with_long : LongOrder → ℕ → Gate → Gate
with_long long.Destination v g = with_load (load.Destination (to_z w32 v)) g
with_long long.Velocity v g = with_load (load.Velocity v) g
with_long long.Acceleration v g = with_load (load.Acceleration (to_z w32 v)) g
with_long long.Point v g = with_breakpoint g (record g.breakpoint { point = v })
with_long long.Actual v g = gate_halted_at (to_z w32 v) g

abbrev pub long_answer : LongOrder → ℕ → Result (Unit {0}) OutOfRange
long_answer o v = value_if_fits (is_long_in_range o v) tt

abbrev pub run_long : LongOrder → ℕ → Gate → Gate
run_long o v g = cond (is_long_in_range o v) (with_long o v g) (with_command_error g)

-- the load that an order is, if it is one
abbrev pub order_load : Order → Option Load
order_load (Mode m) = Some (load.Mode m)
order_load Stop = Some (load.Velocity 0)
order_load Update = None
order_load (Auto on) = None
order_load (Break m) = None
order_load (Motor kind) = None

abbrev pub word_load : WordOrder → ℕ → Option Load
word_load word.BufferedPower w = Some (load.Power w)
word_load word.Power w = None
word_load word.ClearEvents w = None
word_load word.Mask w = None

abbrev pub long_load : LongOrder → ℕ → Option Load
long_load long.Destination v = Some (load.Destination (to_z w32 v))
long_load long.Velocity v = Some (load.Velocity v)
long_load long.Acceleration v = Some (load.Acceleration (to_z w32 v))
long_load long.Point v = None
long_load long.Actual v = None
