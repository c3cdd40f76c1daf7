-- What a line of a script does to its board, and how that is answered.
use Rattle.std.specs.Prelude.{◌≡◌, ℕ, ◌-◌, ◌/◌, ◌%◌, Bool, cond, List, [], ◌∷◌, slice_get, slice_index, ℤ, pos, Some, None, Ok, Err, Option, Result, IfOk, ◌==◌}
use Rattle.std.specs.Int.{w32}
use Rattle.std.proofs.Common.{to_z}
use Rattle.ring.specs.Places.{read_at}
use Rattle.stage.specs.declared.Stage.{Ghosts}
use Rattle.stage.specs.Pairs.{pair_of}
use Rattle.stage.specs.Codes.{StandsFor}
use Rattle.stage.specs.declared.codes.Codes.{Codes}
use Rattle.gate.specs.declared.queries.Query.{Query}
use Rattle.gate.specs.declared.queries.Query.TheVariants.{Destination, Velocity, Acceleration, TargetPosition, TargetVelocity, ActualPosition, ClockTime}
use Rattle.board.specs.declared.board.Board.{Board}
use Rattle.board.specs.declared.collect.EventRecord.{EventRecord}
use Rattle.board.specs.declared.command.Command.{Command}
use Rattle.board.specs.declared.command.Command.TheVariants as command
use Rattle.board.specs.declared.refusal.Refusal.{Refusal}
use Rattle.board.specs.Commands.{code_table}
use Rattle.board.specs.Own.{Answer, answer_done, answer_refused, answer_word, answer_words, answer_slip, join}
use Rattle.board.specs.Acts.{act_command, act_write, act_read, act_cycle, act_reset, act_take, act_collect, State}
use Rattle.board.specs.Runs.{Performs, BoardUnchanged, stage_of}
use Rattle.desk.specs.Closes.{ClosesSlip}
use Rattle.desk.specs.Runs.{RunsCycles}
use Rattle.script.specs.declared.line.Line.{Line}
use Rattle.script.specs.declared.line.Line.TheVariants as line
use Rattle.script.specs.declared.line.Packet.{Packet}
use Rattle.script.specs.declared.log.Log.{Log}
use Rattle.script.specs.declared.line.Packet.TheVariants as packet
use Rattle.script.specs.declared.reply.Reply.{Reply}
use Rattle.script.specs.declared.reply.Reply.TheVariants.{Done, Word, Slip, NoSlip, Pairs, Wires, Value, Event, EventAt, NoEvent}
use Rattle.script.specs.Packets.{Sends, Fetches}
use Rattle.script.specs.Logs.{next_record, log_after_collect, log_after_next, log_after_remove}

-- the answer to an act that a reply or a refusal stands for; `answer_words` is the answer to none, so the other replies stand for none
abbrev pub answer_of_reply : Result Reply Refusal → Answer
answer_of_reply (Ok Done) = answer_done
answer_of_reply (Ok (Word w)) = answer_word w
answer_of_reply (Ok (Slip n)) = cond (n == 0) (answer_words 0 []) (answer_slip (n - 1))
answer_of_reply (Ok NoSlip) = answer_words 0 []
answer_of_reply (Ok (Pairs p q)) = answer_words 0 []
answer_of_reply (Ok (Wires c)) = answer_words 0 []
answer_of_reply (Ok (Value z)) = answer_words 0 []
answer_of_reply (Ok (Event r)) = answer_words 0 []
answer_of_reply (Ok (EventAt r p)) = answer_words 0 []
answer_of_reply (Ok NoEvent) = answer_words 0 []
answer_of_reply (Err e) = answer_refused e

-- a velocity register and the clock are unsigned, the other numbers signed
abbrev pub query_value : Query → ℕ → ℤ
query_value Destination n = to_z w32 n
query_value Velocity n = pos n
query_value Acceleration n = to_z w32 n
query_value TargetPosition n = to_z w32 n
query_value TargetVelocity n = to_z w32 n
query_value ActualPosition n = to_z w32 n
query_value ClockTime n = pos n

-- the reply to a record that is read or taken out, or to none
abbrev pub event_reply : Option EventRecord → Reply
event_reply (Some r) = Event r
event_reply None = NoEvent

-- the same of a record with the next place
abbrev pub place_reply : Option (EventRecord × ℕ) → Reply
place_reply (Some p) = EventAt p.0 p.1
place_reply None = NoEvent

-- what becomes of the log of a board in state s
abbrev pub log_after_line : State → Line → Log → Log
log_after_line s (line.Collect n) log = log_after_collect s n log
log_after_line s (line.Next reader) log = log_after_next reader log
log_after_line s line.Remove log = log_after_remove log
log_after_line s l log = log

-- the line asks nothing of a board
abbrev pub AsksNothing : Result (Option Reply) Refusal → Type 0
AsksNothing x = x ≡ Ok None

-- what holds of the reply, if there is one
abbrev pub Replies : (Reply → Type 0) → Result (Option Reply) Refusal → Type 0
Replies P (Ok None) = ⊥
Replies P (Ok (Some r)) = P r
Replies P (Err e) = ⊥

-- the same, where a refusal may come in its place
abbrev pub Answers : (Result Reply Refusal → Type 0) → Result (Option Reply) Refusal → Type 0
Answers P (Ok None) = ⊥
Answers P (Ok (Some r)) = P (Ok r)
Answers P (Err e) = P (Err e)

module _ {S : Type 0} (m : Ghosts S) where
  -- the pairs that the stage shows
  abbrev pub Shows : Board S m → Reply → Type 0
  Shows b r = r ≡ Pairs (pair_of (m.pairs (stage_of b)) 1) (pair_of (m.pairs (stage_of b)) 2)

  -- what the stage has on its wires, by `look`; it stands for the pairs
  abbrev pub ShowsWires : (S → Codes) → Board S m → Reply → Type 0
  ShowsWires look b r = (r ≡ Wires (look (stage_of b))) × StandsFor (m.pairs (stage_of b)) (look (stage_of b))

  -- the packet of a command that gives k words, by the code n of the command; they stand for a value
  abbrev pub GivesWords : ℕ → (List ℕ → ℤ) → ℕ → Result Reply Refusal → Board S m → Board S m → Type 0
  GivesWords k value n (Ok r) b d = (words : List ℕ) × (r ≡ Value (value words)) × Fetches m k n (Ok words) b d
  GivesWords k value n (Err e) b d = Fetches m k n (Err e) b d

  -- the packet of a command that takes no word, by the code n of the command
  abbrev pub PlaysPlain : Command → ℕ → Result Reply Refusal → Board S m → Board S m → Type 0
  PlaysPlain (command.Status w) n r b d = GivesWords 1 (λ words. pos (slice_index words 0)) n r b d
  PlaysPlain (command.Ask q) n r b d = GivesWords 2 (λ words. query_value q (join (slice_index words 0) (slice_index words 1))) n r b d
  PlaysPlain (command.Now o) n r b d = Performs m (act_command n) (answer_of_reply r) b d
  PlaysPlain (command.Word o) n r b d = Performs m (act_command n) (answer_of_reply r) b d
  PlaysPlain (command.Long o) n r b d = Performs m (act_command n) (answer_of_reply r) b d
  PlaysPlain command.MultiUpdate n r b d = Performs m (act_command n) (answer_of_reply r) b d

  -- the whole packet of a command, by the code n of the command
  abbrev pub PlaysPacket : Packet → ℕ → Result Reply Refusal → Board S m → Board S m → Type 0
  PlaysPacket (packet.Plain c) n r b d = (code_table n ≡ Some c) × PlaysPlain c n r b d
  PlaysPacket (packet.Word c w) n r b d =
      (code_table n ≡ Some c) × (IfOk r (λ x. x ≡ Done) × Sends m (act_command n ∷ (act_write w ∷ [])) r b d)
  PlaysPacket (packet.Long c v) n r b d =
      (code_table n ≡ Some c)
      × (IfOk r (λ x. x ≡ Done) × Sends m (act_command n ∷ (act_write (v / 65536) ∷ (act_write (v % 65536) ∷ []))) r b d)

  -- what a line does to its board, whose log is given, and is answered; `look` tells what a stage has on its wires
  abbrev pub PlaysLine : (S → Codes) → Log → Line → Result (Option Reply) Refusal → Board S m → Board S m → Type 0
  PlaysLine look log line.Nothing x b d = AsksNothing x × BoardUnchanged m b d
  PlaysLine look log (line.Board side) x b d = AsksNothing x × BoardUnchanged m b d
  PlaysLine look log (line.Command n) x b d = Answers (λ r. Performs m (act_command n) (answer_of_reply r) b d) x
  PlaysLine look log (line.Write w) x b d = Answers (λ r. Performs m (act_write w) (answer_of_reply r) b d) x
  PlaysLine look log line.Read x b d = Answers (λ r. Performs m act_read (answer_of_reply r) b d) x
  PlaysLine look log (line.Cycle i j) x b d = Replies (λ r. Performs m (act_cycle i j) answer_done b d × Shows d r) x
  PlaysLine look log (line.Run n) x b d = Replies (λ r. RunsCycles m n b d × Shows d r) x
  PlaysLine look log line.Reset x b d = Answers (λ r. Performs m act_reset (answer_of_reply r) b d) x
  PlaysLine look log line.Take x b d = Answers (λ r. Performs m act_take (answer_of_reply r) b d) x
  PlaysLine look log (line.Close g w) x b d = Replies (λ r. (y : Bool) × (r ≡ cond y Done NoSlip) × ClosesSlip m g w y b d) x
  PlaysLine look log (line.Collect n) x b d = Answers (λ r. Performs m (act_collect n log.list) (answer_of_reply r) b d) x
  PlaysLine look log (line.Next reader) x b d = Replies (λ r. BoardUnchanged m b d × (r ≡ event_reply (next_record reader log))) x
  PlaysLine look log (line.Event p) x b d = Replies (λ r. BoardUnchanged m b d × (r ≡ place_reply (read_at log.list p))) x
  PlaysLine look log line.Remove x b d = Replies (λ r. BoardUnchanged m b d × (r ≡ event_reply (slice_get log.list.records 0))) x
  PlaysLine look log line.Pairs x b d = Replies (λ r. BoardUnchanged m b d × Shows d r) x
  PlaysLine look log line.Wires x b d = Replies (λ r. BoardUnchanged m b d × ShowsWires look d r) x
  PlaysLine look log (line.Packet p) x b d = Answers (λ r. (n : ℕ) × PlaysPacket p n r b d) x
