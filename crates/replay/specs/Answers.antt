-- What is answered to a read and to a remove, and the bytes of the answers.
use Rattle.std.specs.Prelude.{ℕ, List, [], ◌∷◌, ◌++◌, Some, None, Ok, Err, Option, Result}
use Rattle.stage.specs.declared.Stage.{Ghosts}
use Rattle.gate.specs.Events.{place}
use Rattle.board.specs.declared.board.Board.{Board}
use Rattle.board.specs.declared.collect.EventRecord.{EventRecord}
use Rattle.board.specs.declared.refusal.Refusal.{Refusal}
use Rattle.board.specs.Refusals.{refusal_number}
use Rattle.replay.specs.declared.reply.Reply.{Reply}
use Rattle.replay.specs.declared.reply.Reply.TheVariants.{Accepted, Word, Slip, NoSlip, Look, Event, Removed, NoEvent}
use Rattle.replay.specs.Numbers.{two_bytes, four_bytes, eight_bytes}
use Rattle.replay.specs.Looks.{look_bytes}

-- a record that was read and the next place, or the end of the list
abbrev pub reply_of_read : Option (EventRecord × ℕ) → Reply
reply_of_read (Some p) = Event p.0 p.1
reply_of_read None = NoEvent

-- a record that was taken out, or none
abbrev pub reply_of_removed : Option EventRecord → Reply
reply_of_removed (Some r) = Removed r
reply_of_removed None = NoEvent

-- gate, place of the bit, clock
abbrev pub event_bytes : EventRecord → List ℕ
event_bytes r = r.gate ∷ place r.event ∷ four_bytes r.clock.cycles

abbrev pub answer_bytes : {S : Type 0} (m : Ghosts S) → Result Reply Refusal → Board S m → List ℕ
answer_bytes m (Ok Accepted) b = 0 ∷ []
answer_bytes m (Ok (Word w)) b = 0x10 ∷ two_bytes w
answer_bytes m (Ok (Slip gate)) b = 0x11 ∷ gate ∷ []
answer_bytes m (Ok NoSlip) b = 0x12 ∷ []
answer_bytes m (Ok Look) b = look_bytes m b
answer_bytes m (Ok (Event r next)) b = 0x14 ∷ (event_bytes r ++ eight_bytes next)
answer_bytes m (Ok (Removed r)) b = 0x15 ∷ event_bytes r
answer_bytes m (Ok NoEvent) b = 0x16 ∷ []
answer_bytes m (Err e) b = refusal_number e ∷ []
