-- What a gate's record, answers, pair and registers hang on: its own list, and nothing else of a board's history.
use Rattle.std.specs.Prelude.{◌≡◌, ℕ, ◌<◌, max, Bool, cond, ◌&&◌, List, [], ◌∷◌, ◌++◌, map, ℤ, pos, ◌+ℤ◌, ◌<ℤ◌, Some, None, Option}
use Rattle.std.specs.Int.{w32}
use Rattle.std.proofs.Common.{to_z}
use Rattle.stage.specs.declared.Stage.{Ghosts}
use Rattle.gate.specs.declared.gate.Gate.{Gate}
use Rattle.gate.specs.declared.events.Events.{Events}
use Rattle.gate.specs.declared.inputs.Inputs.{Inputs}
use Rattle.gate.specs.Events.{no_events}
use Rattle.gate.specs.declared.orders.Order.{Order}
use Rattle.gate.specs.declared.orders.Order.TheVariants.{Mode, Stop, Update}
use Rattle.gate.specs.declared.orders.LongOrder.{LongOrder}
use Rattle.gate.specs.declared.orders.LongOrder.TheVariants as long
use Rattle.gate.specs.declared.profile.Profile.{Profile}
use Rattle.gate.specs.Cycles.{tick, add_count, trip, is_breakpoint_met}
use Rattle.gate.specs.Orders.{is_long_in_range}
use Rattle.gate.specs.Profile.{first_profile}
use Rattle.board.specs.declared.port.Port.{Port}
use Rattle.board.specs.declared.port.Port.TheVariants.{Giving}
use Rattle.board.specs.declared.board.Board.{Board}
use Rattle.board.specs.Own.{OwnEntry, entry_reset, entry_cycle, entry_order, entry_long_order, entry_query, entry_status, entry_collect, Answer, answer_done, answer_words, join, gate_by_own_list}
use Rattle.board.specs.Acts.{State, state_of, gate_of, Act, Transition, transition, entries, port_after, transition_answer}
use Rattle.board.specs.Owners.{GrowsByEntry}
use Rattle.board.specs.Runs.{state_after, axis_pair, IsReachedBy}

-- the own list of gate k, 0 for gate 1 and 1 for gate 2: what of each act stands in it, the newest first
abbrev pub own_list : ℕ → List Act → List OwnEntry
own_list k [] = []
own_list k (a ∷ h) = entries k (transition (state_after h) a) ++ own_list k h

abbrev pub waiting_words : ℕ → Option ℕ → Answer
waiting_words w (Some v) = answer_words w (v ∷ [])
waiting_words w None = answer_words w []

-- the answer that waits in a port
abbrev pub waiting_answer : Port → Answer
waiting_answer (Giving w t) = waiting_words w t
waiting_answer p = answer_done

-- the answer to an entry that a transition makes: of a read command the words that it leaves in the port, of any other what the act answers
abbrev pub answer_to : State → Transition → OwnEntry → Answer
answer_to s m (entry_query q) = waiting_answer (port_after s m)
answer_to s m (entry_status w) = waiting_answer (port_after s m)
answer_to s m e = transition_answer s m

-- the answers to gate k's acts, in the order of its own list
abbrev pub own_answers : ℕ → List Act → List Answer
own_answers k [] = []
own_answers k (a ∷ h) =
    map (answer_to (state_after h) (transition (state_after h) a)) (entries k (transition (state_after h) a)) ++ own_answers k h

-- the register book of a gate: of each profile register the value last loaded and the value last latched
pub record Book : Type 0 where
  pub loaded : Profile
  pub latched : Profile

abbrev pub new_book : Book
new_book = record { loaded = first_profile; latched = first_profile }

abbrev pub book_after_latch : Book → Book
book_after_latch b = record b { latched = b.loaded }

abbrev pub book_after_order : Order → Book → Book
book_after_order (Mode m) b = record b { loaded = record b.loaded { mode = m } }
book_after_order Stop b = record b { loaded = record b.loaded { velocity = 0 } }
book_after_order Update b = book_after_latch b
book_after_order o b = b

abbrev pub book_after_long : LongOrder → ℕ → Book → Book
book_after_long long.Destination v b = record b { loaded = record b.loaded { destination = to_z w32 v } }
book_after_long long.Velocity v b = record b { loaded = record b.loaded { velocity = v } }
book_after_long long.Acceleration v b = record b { loaded = record b.loaded { acceleration = to_z w32 v } }
book_after_long o v b = b

-- a cycle latches where its breakpoint is met while auto update is on
abbrev pub is_latching_cycle : Inputs → Gate → Bool
is_latching_cycle i g = is_breakpoint_met i.home (trip i (add_count i.count (tick g))) && g.breakpoint.auto

-- the book by an own list: a command that runs and loads sets the loaded value, an UPDATE and a cycle that latches copy the loaded to
-- the latched values, a reset begins anew, and nothing else changes it
abbrev pub book : List OwnEntry → Book
book [] = new_book
book (entry_reset ∷ es) = new_book
book (entry_cycle i ∷ es) = cond (is_latching_cycle i (gate_by_own_list es)) (book_after_latch (book es)) (book es)
book (entry_order o ∷ es) = book_after_order o (book es)
book (entry_long_order o high low ∷ es) = cond (is_long_in_range o (join high low)) (book_after_long o (join high low) (book es)) (book es)
book (e ∷ es) = book es

-- the event bits that were set at the last collect of an own list: none where none came since a reset
abbrev pub bits_collected : List OwnEntry → Events
bits_collected [] = no_events
bits_collected (entry_reset ∷ es) = no_events
bits_collected (entry_collect ∷ es) = (gate_by_own_list es).events
bits_collected (e ∷ es) = bits_collected es

-- two numbers are less than d apart
pub record DifferByLessThan (d : ℕ) (x y : ℤ) : Type 0 where
  pub below : x <ℤ (y +ℤ pos d)
  pub above : y <ℤ (x +ℤ pos d)

-- over every history an own list grows, act by act, by the entry that belongs to its gate, and by nothing else
abbrev pub EachEntryBelongs : Type 0
EachEntryBelongs = (k : ℕ) → k < 2 → (a : Act) → (h : List Act) → GrowsByEntry k (state_after h) a (own_list k h) (own_list k (a ∷ h))

-- one board alone: the active registers of each gate are those latched in the book of its own list
module _ {S : Type 0} (m : Ghosts S) (b : Board S m) where
  abbrev pub FollowsBook : Type 0
  FollowsBook = (k : ℕ) → k < 2 → (h : List Act) → IsReachedBy m h b → (gate_of (state_of b.table) k).active ≡ (book (own_list k h)).latched

  -- and the bits that each gate has as found are those that were set at the last collect of its own list
  abbrev pub KeepsFound : Type 0
  KeepsFound = (k : ℕ) → k < 2 → (h : List Act) → IsReachedBy m h b → (gate_of (state_of b.table) k).found ≡ bits_collected (own_list k h)

module _ {S R : Type 0} (m : Ghosts S) (b : Board S m) (n : Ghosts R) (d : Board R n) where
  -- what two boards that are reached by h and by i have in common of gate k
  pub record IsAlike (k : ℕ) (h i : List Act) : Type 0 where
    pub record_same : gate_of (state_of b.table) k ≡ gate_of (state_of d.table) k
    pub answers_same : own_answers k h ≡ own_answers k i
    pub pairs_same : m.STEP ≡ n.STEP → axis_pair (m.pairs b.stage) k ≡ axis_pair (n.pairs d.stage) k
    pub near_phase_a : DifferByLessThan (max m.STEP n.STEP) (axis_pair (m.pairs b.stage) k).0 (axis_pair (n.pairs d.stage) k).0
    pub near_phase_b : DifferByLessThan (max m.STEP n.STEP) (axis_pair (m.pairs b.stage) k).1 (axis_pair (n.pairs d.stage) k).1
    pub latched : (gate_of (state_of b.table) k).active ≡ (book (own_list k h)).latched

  -- what one gate does and answers hangs on its own list alone, whatever lists of acts the two boards are reached by
  abbrev pub IsIsolated : Type 0
  IsIsolated = (k : ℕ) → k < 2 → (h i : List Act) → IsReachedBy m h b → IsReachedBy n i d → own_list k h ≡ own_list k i → IsAlike k h i
