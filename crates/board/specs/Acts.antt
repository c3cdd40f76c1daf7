-- The acts on a board: where each leads, and what it answers and leaves.
use Rattle.std.specs.Prelude.{ℕ, ◌-◌, ◌/◌, ◌%◌, ◌<◌, Bool, false, cond, not, ◌&&◌, List, [], ◌∷◌, pos, Some, None, Ok, Err, Option, Result, ◌==◌, nat_lt, slice_index_or}
use Rattle.std.proofs.Props.{props}
use Rattle.gate.specs.declared.gate.Gate.{Gate}
use Rattle.gate.specs.declared.inputs.Inputs.{Inputs}
use Rattle.gate.specs.declared.orders.Order.TheVariants.{Update}
use Rattle.gate.specs.declared.gate.BreakMode.TheVariants.{Off}
use Rattle.gate.specs.declared.profile.ProfileMode.TheVariants.{Trapezoidal}
use Rattle.gate.specs.Events.{no_events}
use Rattle.wave.specs.declared.phases.MotorKind.TheVariants.{TwoPhase}
use Rattle.gate.specs.Queries.{query_answer, is_calling, status_word}
use Rattle.gate.specs.Sound.{IsSound}
use Rattle.ring.specs.Listing.{Listing}
use Rattle.stage.specs.Pairs.{is_gate}
use Rattle.board.specs.declared.command.GateName.{GateName}
use Rattle.board.specs.declared.command.GateName.TheVariants.{First, Second, Calling, Current}
use Rattle.board.specs.declared.port.Port.{Port}
use Rattle.board.specs.declared.port.Port.TheVariants.{Idle, Giving}
use Rattle.board.specs.declared.port.Incoming.TheVariants as incoming
use Rattle.board.specs.declared.port.Step.{Step}
use Rattle.board.specs.declared.port.Step.TheVariants as step
use Rattle.board.specs.declared.refusal.Refusal.{Refusal}
use Rattle.board.specs.declared.refusal.Refusal.TheVariants.{OutOfRange, NoCall, NoSlip, NoRoom}
use Rattle.board.specs.declared.table.Table.{Table}
use Rattle.board.specs.declared.collect.EventRecord.{EventRecord}
use Rattle.board.specs.Collects.{has_room, with_new_records}
use Rattle.board.specs.Ports.{port_after_incoming, port_step}
use Rattle.board.specs.Own.{OwnEntry, entry_reset, entry_cycle, entry_order, entry_word_order, entry_long_order, entry_query, entry_status, entry_take, entry_close, entry_collect, Answer, answer_done, answer_refused, answer_word, answer_words, answer_slip, entry_answer, gate_after_list}

-- a table, gate by gate; the current gate is 0 for gate 1 and 1 for gate 2
pub record State : Type 0 where
  pub one : Gate
  pub two : Gate
  pub current : ℕ
  pub port : Port

-- what stands past the end of the table's two gates, where nothing looks: each field has the first value of its type, as in the proofs
-- that the checker writes
abbrev pub blank_gate : Gate
blank_gate =
    record {
      buffered = record { destination = pos 0; velocity = 0; acceleration = pos 0; mode = Trapezoidal };
      active = record { destination = pos 0; velocity = 0; acceleration = pos 0; mode = Trapezoidal };
      powers = record { buffered = 0; active = 0 };
      motion = record { target = pos 0; velocity = pos 0; halted = false; rested = false };
      actual = pos 0;
      breakpoint = record { mode = Off; point = 0; auto = false };
      events = no_events;
      found = no_events;
      mask = 0;
      detectors = record { positive = false; negative = false };
      kind = TwoPhase;
      slip = false;
      clock = record { cycles = 0 };
    }

abbrev pub state_of : Table → State
state_of t =
    record { one = slice_index_or t.gates 0 blank_gate; two = slice_index_or t.gates 1 blank_gate; current = t.current; port = t.port }

abbrev pub gate_of : State → ℕ → Gate
gate_of s k = cond (k == 0) s.one s.two

pub data Act : Type 0 where
  act_command : ℕ → Act
  act_write : ℕ → Act
  act_read : Act
  act_cycle : Inputs → Inputs → Act
  act_reset : Act
  act_take : Act
  act_close : ℕ → ℕ → Act
  act_collect : ℕ → Listing EventRecord → Act

-- where an act leads, once the port and the gates that call are looked at: it is refused, a packet goes on, an entry for one gate comes
-- about, UPDATEs are counted, a value fits nothing, a word is given, a cycle, a reset
pub data Transition : Type 0 where
  refuse : Refusal → Transition
  wait : Transition
  enter : ℕ → OwnEntry → Transition
  multi_update : ℕ → Transition
  refuse_value : Transition
  give : ℕ → Transition
  cycle_both : Inputs → Inputs → Transition
  reset_both : Transition

-- the lowest-numbered gate that passes a test
abbrev pub lowest_gate : (Gate → Bool) → State → Option ℕ
lowest_gate test s = cond (test s.one) (Some 0) (cond (test s.two) (Some 1) None)

-- the lowest-numbered gate that calls
abbrev pub caller : State → Option ℕ
caller s = lowest_gate is_calling s

-- a gate that calls and has no slip out
abbrev pub is_waiting : Gate → Bool
is_waiting g = is_calling g && not g.slip

-- the lowest-numbered of those
abbrev pub waiting_gate : State → Option ℕ
waiting_gate s = lowest_gate is_waiting s

abbrev pub named_gate : State → GateName → Option ℕ
named_gate s First = Some 0
named_gate s Second = Some 1
named_gate s Calling = caller s
named_gate s Current = Some s.current

abbrev pub entry_transition : Option ℕ → OwnEntry → Transition
entry_transition (Some k) e = enter k e
entry_transition None e = refuse NoCall

-- what is done of what the port found
abbrev pub step_transition : State → Result Step Refusal → Transition
step_transition s (Err r) = refuse r
step_transition s (Ok step.Wait) = wait
step_transition s (Ok (step.Status w)) = entry_transition (named_gate s w) (entry_status w)
step_transition s (Ok (step.Ask q)) = enter s.current (entry_query q)
step_transition s (Ok (step.Run o)) = enter s.current (entry_order o)
step_transition s (Ok (step.Word o w)) = enter s.current (entry_word_order o w)
step_transition s (Ok (step.Long o high low)) = enter s.current (entry_long_order o high low)
step_transition s (Ok (step.Gates w)) = cond (nat_lt w 4) (multi_update w) refuse_value
step_transition s (Ok (step.Give w)) = give w

abbrev pub transition : State → Act → Transition
transition s (act_command b) = step_transition s (port_step s.port (incoming.Command b))
transition s (act_write w) = step_transition s (port_step s.port (incoming.Write w))
transition s act_read = step_transition s (port_step s.port incoming.Read)
transition s (act_cycle i j) = cycle_both i j
transition s act_reset = reset_both
transition s act_take = entry_transition (waiting_gate s) entry_take
transition s (act_close k w) = cond (gate_of s k).slip (enter k (entry_close w)) (refuse NoSlip)
transition s (act_collect n l) =
    cond (is_gate n) (cond (has_room n (gate_of s (n - 1)) l) (enter (n - 1) entry_collect) (refuse NoRoom)) (refuse OutOfRange)

-- the list that a collect is given, after it: with the records of what is new, if it is accepted, and else as it was
abbrev pub list_after_collect : State → ℕ → Listing EventRecord → Listing EventRecord
list_after_collect s n l = cond (is_gate n && has_room n (gate_of s (n - 1)) l) (with_new_records n (gate_of s (n - 1)) l) l

-- the state with the port moved on by what an act brings to it
abbrev pub state_past_port : State → Act → State
state_past_port s (act_command b) = record s { port = port_after_incoming s.port (incoming.Command b) }
state_past_port s (act_write w) = record s { port = port_after_incoming s.port (incoming.Write w) }
state_past_port s act_read = record s { port = port_after_incoming s.port incoming.Read }
state_past_port s a = s

-- whether a word of MULTI_UPDATE counts gate k: bit 0 for gate 1, bit 1 for gate 2
abbrev pub is_gate_counted : ℕ → ℕ → Bool
is_gate_counted w k = cond (k == 0) (w % 2 == 1) (w / 2 == 1)

-- what of a transition stands in the own list of gate k
abbrev pub entries : ℕ → Transition → List OwnEntry
entries k (enter j e) = cond (j == k) (e ∷ []) []
entries k (multi_update w) = cond (is_gate_counted w k) (entry_order Update ∷ []) []
entries k (cycle_both i j) = entry_cycle (cond (k == 0) i j) ∷ []
entries k reset_both = entry_reset ∷ []
entries k m = []

-- a status that is asked makes its gate current
abbrev pub current_after_entry : ℕ → ℕ → OwnEntry → ℕ
current_after_entry n j (entry_status w) = j
current_after_entry n j e = n

abbrev pub current_after : ℕ → Transition → ℕ
current_after n (enter j e) = current_after_entry n j e
current_after n reset_both = 0
current_after n m = n

-- a read command fixes its answer; of any other entry the port knows already
abbrev pub port_after_entry : State → ℕ → OwnEntry → Port
port_after_entry s j (entry_query q) = Giving (query_answer q (gate_of s j) / 65536) (Some (query_answer q (gate_of s j) % 65536))
port_after_entry s j (entry_status w) = Giving (status_word j (gate_of s j)) None
port_after_entry s j e = s.port

abbrev pub port_after : State → Transition → Port
port_after s (enter j e) = port_after_entry s j e
port_after s reset_both = Idle
port_after s m = s.port

-- the state that a transition leads to, from one whose port has moved on
abbrev pub next_state : State → Transition → State
next_state s m =
    record {
      one = gate_after_list (entries 0 m) s.one;
      two = gate_after_list (entries 1 m) s.two;
      current = current_after s.current m;
      port = port_after s m;
    }

-- an act that fixes an answer is itself only accepted
abbrev pub act_answer : Answer → Answer
act_answer (answer_words w ws) = answer_done
act_answer x = x

abbrev pub transition_answer : State → Transition → Answer
transition_answer s (refuse r) = answer_refused r
transition_answer s (enter j e) = act_answer (entry_answer j (gate_of s j) e)
transition_answer s refuse_value = answer_refused OutOfRange
transition_answer s (give w) = answer_word w
transition_answer s m = answer_done

abbrev pub state_after_act : State → Act → State
state_after_act s a = next_state (state_past_port s a) (transition s a)

abbrev pub answer : State → Act → Answer
answer s a = transition_answer s (transition s a)

-- what the calls return, as answers
abbrev pub answer_of_unit : Result (Unit {0}) Refusal → Answer
answer_of_unit (Ok _) = answer_done
answer_of_unit (Err e) = answer_refused e

abbrev pub answer_of_word : Result ℕ Refusal → Answer
answer_of_word (Ok w) = answer_word w
answer_of_word (Err e) = answer_refused e

abbrev pub answer_of_axis : Result ℕ Refusal → Answer
answer_of_axis (Ok k) = answer_slip k
answer_of_axis (Err e) = answer_refused e

-- a table that a board may hold
pub record IsSoundTable (t : Table) : Type 0 where
  pub current : t.current < 2
  pub one : IsSound (slice_index_or t.gates 0 blank_gate)
  pub two : IsSound (slice_index_or t.gates 1 blank_gate)

-- what a board says of its table, shut, so that a proof above it does not look at each register
unfoldable pub HasSoundTable : Table → Type 0
HasSoundTable t = IsSoundTable t

pub HasSoundTable-prop : (t : Table) → IsProp (HasSoundTable t)
unfolding HasSoundTable
HasSoundTable-prop t = Prim.hlevel props
