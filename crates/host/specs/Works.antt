-- How lots are worked: the packets, cycles, collects and services of each gate, what the panel reads, and what is noted of all that.
use Rattle.std.specs.Prelude.{◌≡◌, ◌==◌, ℕ, zero, suc, true, cond, List, [], ◌∷◌, ◌++◌, pos, neg_ℤ, ◌-ℤ◌, Some, None, Ok, Err, Option, Result, length, min, drop, slice_get}
use Rattle.std.specs.Option.{option_and_then}
use Rattle.std.specs.Int.{w32, int_min, int_max, cast_unsigned}
use Rattle.stage.specs.declared.Stage.{Ghosts}
use Rattle.motion.specs.Course.{microsteps}
use Rattle.gate.specs.declared.gate.Gate.{Gate}
use Rattle.gate.specs.declared.inputs.Inputs.{Inputs}
use Rattle.gate.specs.declared.gate.BreakMode.TheVariants.{Time}
use Rattle.gate.specs.declared.orders.Order.TheVariants.{Break}
use Rattle.gate.specs.declared.orders.WordOrder.TheVariants.{Power, Mask, ClearEvents}
use Rattle.gate.specs.declared.orders.LongOrder.TheVariants.{Destination, Velocity, Acceleration, Point}
use Rattle.gate.specs.Inputs.{still_inputs}
use Rattle.ring.specs.Listing.{Listing}
use Rattle.ring.specs.Places.{unread_from}
use Rattle.board.specs.declared.board.Board.{Board}
use Rattle.board.specs.declared.collect.EventRecord.{EventRecord}
use Rattle.board.specs.declared.command.Command.TheVariants as command
use Rattle.board.specs.declared.command.GateName.{GateName}
use Rattle.board.specs.declared.command.GateName.TheVariants.{First, Second}
use Rattle.board.specs.declared.refusal.Refusal.{Refusal}
use Rattle.board.specs.Own.{answer_done}
use Rattle.board.specs.Acts.{act_collect, act_cycle, act_take, answer_of_unit, gate_of, list_after_collect}
use Rattle.board.specs.Runs.{Performs, board_state}
use Rattle.desk.specs.Closes.{answer_of_number, ClosesSlip}
use Rattle.script.specs.declared.line.Packet.{Packet}
use Rattle.script.specs.declared.line.Packet.TheVariants as packet
use Rattle.script.specs.declared.reply.Reply.{Reply}
use Rattle.script.specs.declared.reply.Reply.TheVariants.{Done, Slip}
use Rattle.script.specs.Plays.{PlaysPacket}
use Rattle.host.specs.declared.lot.Lot.{Lot}
use Rattle.host.specs.declared.lot.Outcome.{Outcome}
use Rattle.host.specs.declared.lots.Work.{Work}
use Rattle.host.specs.declared.lots.Works.{Works}
use Rattle.host.specs.declared.panel.Panel.{Panel}
use Rattle.host.specs.Lots.{outcome_after}

-- what a gate's packets, collects and slips are answered
abbrev pub WorkAnswers : Type 0
WorkAnswers = List (Result Reply Refusal)

-- what is noted of a gate's work
pub record Notes : Type 0 where
  pub gate : ℕ
  pub outcomes : List Outcome
  pub answers : WorkAnswers

abbrev pub notes_of : Work → Notes
notes_of w = record { gate = w.gate; outcomes = w.outcomes.items; answers = w.answers.items }

-- of a gate that is yet to be worked
abbrev pub no_notes : ℕ → Notes
no_notes gate = record { gate = gate; outcomes = []; answers = [] }

-- what a gate's status is asked by
abbrev pub name_of : ℕ → GateName
name_of gate = cond (gate == 1) First Second

-- nothing became of a lot yet
abbrev pub no_outcome : Lot → Outcome
no_outcome lot = record { lot = lot; set_off = None; arrived = None; target = pos 0 }

abbrev pub with_answers : WorkAnswers → Notes → Notes
with_answers more x = record x { answers = x.answers ++ more }

abbrev pub with_lot : Lot → Notes → Notes
with_lot lot x = record x { outcomes = x.outcomes ++ (no_outcome lot ∷ []) }

-- a cycle's record of the gate is noted with the lot that it works, which is the last one
abbrev pub outcomes_after : Gate → List Outcome → List Outcome
outcomes_after g [] = []
outcomes_after g (o ∷ []) = outcome_after o g ∷ []
outcomes_after g (o ∷ (p ∷ more)) = o ∷ outcomes_after g (p ∷ more)

abbrev pub with_note : Gate → Notes → Notes
with_note g x = record x { outcomes = outcomes_after g x.outcomes }

-- the packets that make a gate ready: its status, its power, its mask
abbrev pub ready_packets : ℕ → ℕ → ℕ → List Packet
ready_packets gate power mask =
    packet.Plain (command.Status (name_of gate))
    ∷ (packet.Word (command.Word Power) power
    ∷ (packet.Word (command.Word Mask) mask
    ∷ []))

-- the packets that load a lot: the status of its gate, a word that clears each event bit, its registers, and a breakpoint at its time
abbrev pub load_packets : ℕ → Lot → List Packet
load_packets gate lot =
    packet.Plain (command.Status (name_of gate))
    ∷ (packet.Word (command.Word ClearEvents) 0
    ∷ (packet.Long (command.Long Destination) (cast_unsigned w32 lot.destination)
    ∷ (packet.Long (command.Long Velocity) lot.velocity
    ∷ (packet.Long (command.Long Acceleration) lot.acceleration
    ∷ (packet.Long (command.Long Point) lot.start
    ∷ (packet.Plain (command.Now (Break Time))
    ∷ []))))))

-- an encoder that follows its motor: it counts what the target position is ahead of the actual one, as far as a count goes
abbrev pub following_inputs : Gate → Inputs
following_inputs g =
    record still_inputs { count = int_max (neg_ℤ (pos 32768)) (int_min (microsteps g.motion.target -ℤ g.actual) (pos 32767)) }

-- what a panel keeps: its place in the list, and how many events it read each time
pub record Reading : Type 0 where
  pub place : ℕ
  pub counts : List ℕ

abbrev pub reading_of : Panel → Reading
reading_of p = record { place = p.place; counts = p.counts.items }

abbrev pub no_reading : Reading
no_reading = record { place = 0; counts = [] }

-- up to 8 of the events that a panel has still to read are read, and the rest is before it then; how many they were is noted
abbrev pub ReadsOn : Listing EventRecord → Reading → Reading → Type 0
ReadsOn l x y =
    (n : ℕ) × (n ≡ min 8 (length (unread_from l x.place))) × (unread_from l y.place ≡ drop n (unread_from l x.place))
    × (y.counts ≡ x.counts ++ n ∷ [])

-- a list without its records
abbrev pub emptied : Listing EventRecord → Listing EventRecord
emptied l = record l { records = [] }

-- what a collect's answer is noted as
abbrev pub reply_of_unit : Result (Unit {0}) Refusal → Result Reply Refusal
reply_of_unit (Ok u) = Ok Done
reply_of_unit (Err e) = Err e

-- gate 2's lot at a place
abbrev pub lot_beside : Option (List Lot) → ℕ → Option Lot
lot_beside lots_two k = option_and_then (λ lots. slice_get lots k) lots_two

module _ {S : Type 0} (m : Ghosts S) where
  -- board b becomes d by packets that are answered in turn
  abbrev pub AnswersPackets : List Packet → WorkAnswers → Board S m → Board S m → Type 0
  AnswersPackets [] [] b d = b ≡ d
  AnswersPackets [] (r ∷ rs) b d = ⊥
  AnswersPackets (p ∷ ps) [] b d = ⊥
  AnswersPackets (p ∷ ps) (r ∷ rs) b d = (c : Board S m) × (n : ℕ) × PlaysPacket m p n r b c × AnswersPackets ps rs c d

  -- packets are played for a gate whose notes are x, and leave the notes y
  abbrev pub NotesPackets : List Packet → Notes → Board S m → Notes → Board S m → Type 0
  NotesPackets ps x b y d = (rs : WorkAnswers) × AnswersPackets ps rs b d × (y ≡ with_answers rs x)

  -- a gate is made ready
  abbrev pub MakesReady : ℕ → ℕ → Notes → Board S m → Notes → Board S m → Type 0
  MakesReady power mask x b y d = NotesPackets (ready_packets x.gate power mask) x b y d

  -- a lot is loaded
  abbrev pub LoadsLot : Lot → Notes → Board S m → Notes → Board S m → Type 0
  LoadsLot lot x b y d = NotesPackets (load_packets x.gate lot) (with_lot lot x) b y d

  -- a gate's events are collected into list l, which becomes k, and the answer is noted
  abbrev pub Collects : Notes → Board S m → Listing EventRecord → Notes → Board S m → Listing EventRecord → Type 0
  Collects x b l y d k =
      (answer : Result (Unit {0}) Refusal) × Performs m (act_collect x.gate l) (answer_of_unit answer) b d
      × (k ≡ list_after_collect (board_state b) x.gate l) × (y ≡ with_answers (reply_of_unit answer ∷ []) x)

  -- a lot is loaded, and then what is set of the gate's events is collected
  abbrev pub OrdersLot : Lot → Notes → Board S m → Listing EventRecord → Notes → Board S m → Listing EventRecord → Type 0
  OrdersLot lot x b l y d k = (z : Notes) × (c : Board S m) × LoadsLot lot x b z c × Collects z c l y d k

  -- a slip is taken, and closed with a word that clears motion complete alone
  abbrev pub ServesSlip : Result ℕ Refusal → Notes → Board S m → Notes → Board S m → Type 0
  ServesSlip (Ok n) x b y d =
      (c : Board S m) × Performs m act_take (answer_of_number (Ok n)) b c × ClosesSlip m n 65534 true c d
      × (y ≡ with_answers (Ok (Slip n) ∷ (Ok Done ∷ [])) x)
  ServesSlip (Err e) x b y d = Performs m act_take (answer_of_number (Err e)) b d × (y ≡ with_answers (Err e ∷ []) x)

  -- what is done at a board with no regard to its list, which stays
  abbrev pub SparesList : (Notes → Board S m → Notes → Board S m → Type 0) → Notes → Board S m → Listing EventRecord → Notes → Board S m
      → Listing EventRecord → Type 0
  SparesList P x b l y d k = P x b y d × (k ≡ l)

  -- what is done for a gate, if there is something to do it with
  abbrev pub IfSomething : {T : Type 0}
      → (T → Notes → Board S m → Listing EventRecord → Notes → Board S m → Listing EventRecord → Type 0) → Option T
      → Notes → Board S m → Listing EventRecord → Notes → Board S m → Listing EventRecord → Type 0
  IfSomething P (Some z) x b l y d k = P z x b l y d k
  IfSomething P None x b l y d k = (y ≡ x) × (d ≡ b) × (k ≡ l)

  -- a board and its event list, and what is noted of the work of gate 1, of that of gate 2, and of what the panel read
  pub record Bench : Type 0 where
    pub board : Board S m
    pub list : Listing EventRecord
    pub notes_one : Notes
    pub notes_two : Notes
    pub reading : Reading

  -- a cycle, in which each encoder follows its motor; each gate's record after it is noted
  pub record CyclesOnce (s t : Bench) : Type 0 where
    pub performs : Performs m (act_cycle (following_inputs (gate_of (board_state s.board) 0))
        (following_inputs (gate_of (board_state s.board) 1))) answer_done s.board t.board
    pub list : t.list ≡ s.list
    pub notes_one : t.notes_one ≡ with_note (gate_of (board_state t.board) 0) s.notes_one
    pub notes_two : t.notes_two ≡ with_note (gate_of (board_state t.board) 1) s.notes_two
    pub reading : t.reading ≡ s.reading

  -- so many cycles
  unfoldable pub RunsFor : ℕ → Bench → Bench → Type 0
  RunsFor zero s t = s ≡ t
  RunsFor (suc n) s t = (u : Bench) × RunsFor n s u × CyclesOnce u t

  -- what is done for one gate, and what is noted of the other and of the panel stays
  abbrev pub ForGateOne : (Notes → Board S m → Listing EventRecord → Notes → Board S m → Listing EventRecord → Type 0) → Bench → Bench
      → Type 0
  ForGateOne P s t =
      P s.notes_one s.board s.list t.notes_one t.board t.list × (t.notes_two ≡ s.notes_two) × (t.reading ≡ s.reading)

  abbrev pub ForGateTwo : (Notes → Board S m → Listing EventRecord → Notes → Board S m → Listing EventRecord → Type 0) → Bench → Bench
      → Type 0
  ForGateTwo P s t =
      P s.notes_two s.board s.list t.notes_two t.board t.list × (t.notes_one ≡ s.notes_one) × (t.reading ≡ s.reading)

  -- the panel reads on, and all else stays
  abbrev pub ForPanel : Bench → Bench → Type 0
  ForPanel s t = ReadsOn s.list s.reading t.reading × (t ≡ record s { reading = t.reading })

  -- one lot of gate 1 from its load to its service, and gate 2's beside it
  pub record WorksLot (lot : Lot) (beside : Option Lot) (s t : Bench) : Type 0 where
    pub ordered : Bench
    pub both : Bench
    pub ran : Bench
    pub collected : Bench
    pub listed : Bench
    pub read : Bench
    pub taken : Result ℕ Refusal
    pub one_orders : ForGateOne (OrdersLot lot) s ordered
    pub two_orders : ForGateTwo (IfSomething OrdersLot beside) ordered both
    pub runs : RunsFor 160 both ran
    pub one_collects : ForGateOne Collects ran collected
    pub two_collects : ForGateTwo (IfSomething (λ (lot : Lot). Collects) beside) collected listed
    pub panel_reads : ForPanel listed read
    pub one_served : ForGateOne (SparesList (ServesSlip taken)) read t

  -- so many of gate 1's lots in their order, and beside each gate 2's of the same place, if that gate is to work
  abbrev pub WorksInTurn : List Lot → Option (List Lot) → ℕ → Bench → Bench → Type 0
  WorksInTurn lots lots_two zero s t = s ≡ t
  WorksInTurn lots lots_two (suc k) s t =
      (u : Bench) × (lot : Lot) × WorksInTurn lots lots_two k s u × (slice_get lots k ≡ Some lot) × WorksLot lot (lot_beside lots_two k) u t

  -- all the lots: each gate that works is made ready with its power and its mask, gate 1 first, and then come the turns
  pub record WorksAll (lots : List Lot) (lots_two : Option (List Lot)) (s t : Bench) : Type 0 where
    pub ready : Bench
    pub both : Bench
    pub one_ready : ForGateOne (SparesList (MakesReady 20000 1)) s ready
    pub two_ready : ForGateTwo (IfSomething (λ (lots : List Lot). SparesList (MakesReady 12000 0)) lots_two) ready both
    pub turns : WorksInTurn lots lots_two (length lots) both t

  -- a board and its list with what is noted of them, and those of which nothing is noted yet
  abbrev pub bench_of : Board S m → Listing EventRecord → Works → Bench
  bench_of b l w =
      record { board = b; list = l; notes_one = notes_of w.one; notes_two = notes_of w.two; reading = reading_of w.panel }

  abbrev pub new_bench : Board S m → Listing EventRecord → Bench
  new_bench b l = record { board = b; list = l; notes_one = no_notes 1; notes_two = no_notes 2; reading = no_reading }

  -- the lots are worked on a board, whatever is noted, and in the end its list is emptied
  abbrev pub WorksOn : List Lot → Option (List Lot) → Board S m → Listing EventRecord → Board S m → Listing EventRecord → Type 0
  WorksOn lots lots_two b l d k = (t : Bench) × WorksAll lots lots_two (new_bench b l) t × (t.board ≡ d) × (k ≡ emptied t.list)
