-- How what became of a lot, and an event in the batch book, are printed, column by column.
use Rattle.std.specs.Prelude.{ℕ, ◌-◌, ◌^◌, List, ◌++◌, ℤ, codes, Option, Some, None}
use Rattle.std.specs.Fmt.{format_spec, styled_decimal, styled_signed_decimal, styled_text}
use Rattle.gate.specs.declared.events.Event.{Event}
use Rattle.gate.specs.declared.events.Event.TheVariants.{MotionComplete, WrapAround, Breakpoint, PositiveLimit, NegativeLimit, CommandError}
use Rattle.gate.specs.Clock.{time}
use Rattle.board.specs.declared.collect.EventRecord.{EventRecord}
use Rattle.host.specs.declared.lot.Lot.{Lot}
use Rattle.host.specs.declared.lot.Outcome.{Outcome}

-- a number at the right of a column of so many characters, with blanks before it
abbrev pub column : ℕ → ℕ → List ℕ
column width n = styled_decimal (format_spec 32 3 0 width (2 ^ 64 - 1)) n

abbrev pub signed_column : ℕ → ℤ → List ℕ
signed_column width z = styled_signed_decimal (format_spec 32 3 0 width (2 ^ 64 - 1)) z

-- a text at the left of a column, with blanks behind it
abbrev pub text_column : ℕ → List ℕ → List ℕ
text_column width text = styled_text (format_spec 32 1 0 width (2 ^ 64 - 1)) text

-- the number of a cycle there, or a dash where there is none
abbrev pub cycle_text : Option ℕ → List ℕ
cycle_text (Some n) = column 8 n
cycle_text None = codes "       -"

-- two of them with a blank between
abbrev pub cycles_text : Option ℕ → Option ℕ → List ℕ
cycles_text from to = cycle_text from ++ (codes " " ++ cycle_text to)

-- where a lot's gate is sent, and when that is latched
abbrev pub lot_text : Lot → List ℕ
lot_text lot =
    signed_column 11 lot.destination
    ++ codes "  " ++ column 8 lot.velocity
    ++ codes "  " ++ column 12 lot.acceleration
    ++ codes "  " ++ column 7 lot.start

-- the lot, the cycles in which its gate set off and arrived, and the target position
abbrev pub outcome_text : Outcome → List ℕ
outcome_text o =
    lot_text o.lot ++ (cycles_text o.set_off o.arrived ++ (codes "  " ++ signed_column 8 o.target))

-- what an event is called
abbrev pub event_name : Event → List ℕ
event_name MotionComplete = codes "motion complete"
event_name WrapAround = codes "wrap-around"
event_name Breakpoint = codes "breakpoint reached"
event_name PositiveLimit = codes "positive limit"
event_name NegativeLimit = codes "negative limit"
event_name CommandError = codes "command error"

-- an event with its gate and its clock
abbrev pub entry_text : EventRecord → List ℕ
entry_text r =
    codes "         " ++ column 4 r.gate ++ codes "  " ++ text_column 18 (event_name r.event) ++ codes "  " ++ column 10 (time r.clock)
