-- How replies and refusals are printed.
use Rattle.std.specs.Prelude.{ℕ, List, ◌++◌, Ok, Err, Result, codes, decimal}
use Rattle.std.specs.Fmt.{signed_decimal}
use Rattle.stage.specs.Codes.{codes_text}
use Rattle.gate.specs.Clock.{time}
use Rattle.gate.specs.Events.{place}
use Rattle.board.specs.declared.collect.EventRecord.{EventRecord}
use Rattle.board.specs.declared.refusal.Refusal.{Refusal}
use Rattle.board.specs.Refusals.{refusal_number}
use Rattle.script.specs.declared.reply.Reply.{Reply}
use Rattle.script.specs.declared.reply.Reply.TheVariants.{Done, Word, Slip, NoSlip, Pairs, Wires, Value, Event, EventAt, NoEvent}

-- an event: its gate, the place of its bit, and its clock
abbrev pub event_text : EventRecord → List ℕ
event_text r =
    codes "event " ++ (decimal r.gate ++ (codes " " ++ (decimal (place r.event) ++ (codes " " ++ decimal (time r.clock)))))

-- what is printed of a reply
abbrev pub reply_text : Reply → List ℕ
reply_text Done = codes "ok"
reply_text (Word w) = codes "word " ++ decimal w
reply_text (Slip gate) = codes "slip " ++ decimal gate
reply_text NoSlip = codes "no slip"
reply_text (Pairs p q) =
    codes "pairs " ++ (signed_decimal p.0 ++
    (codes " " ++ (signed_decimal p.1 ++ (codes " " ++ (signed_decimal q.0 ++ (codes " " ++ signed_decimal q.1))))))
reply_text (Wires c) = codes "wires " ++ codes_text c
reply_text (Value z) = codes "value " ++ signed_decimal z
reply_text (Event r) = event_text r
reply_text (EventAt r p) = event_text r ++ (codes " next " ++ decimal p)
reply_text NoEvent = codes "none"

-- and of a reply or a refusal
abbrev pub answer_text : Result Reply Refusal → List ℕ
answer_text (Ok r) = reply_text r
answer_text (Err e) = codes "refused " ++ decimal (refusal_number e)
