-- One gate by itself: what stands in its own list, what each entry makes of its record, and what it answers.
use Rattle.std.specs.Prelude.{ℕ, ◌+◌, ◌*◌, ◌/◌, ◌%◌, Bool, true, false, cond, List, [], ◌∷◌}
use Rattle.gate.specs.declared.gate.Gate.{Gate}
use Rattle.gate.specs.declared.inputs.Inputs.{Inputs}
use Rattle.gate.specs.declared.orders.Order.{Order}
use Rattle.gate.specs.declared.orders.WordOrder.{WordOrder}
use Rattle.gate.specs.declared.orders.LongOrder.{LongOrder}
use Rattle.gate.specs.declared.queries.Query.{Query}
use Rattle.gate.specs.Cycles.{cycle}
use Rattle.gate.specs.Events.{keep}
use Rattle.gate.specs.Gates.{fresh_gate, with_events, with_found, with_slip}
use Rattle.gate.specs.Orders.{run, run_word, run_long, is_word_in_range, is_long_in_range}
use Rattle.gate.specs.Queries.{query_answer, status_word}
use Rattle.board.specs.declared.command.GateName.{GateName}
use Rattle.board.specs.declared.refusal.Refusal.{Refusal}
use Rattle.board.specs.declared.refusal.Refusal.TheVariants.{OutOfRange}

-- an entry of a gate's own list: a reset, a cycle with the gate's inputs, a command with its words, a slip's take and its close, a
-- collect; a command stands by what it tells or asks the gate, which names it
pub data OwnEntry : Type 0 where
  entry_reset : OwnEntry
  entry_cycle : Inputs → OwnEntry
  entry_order : Order → OwnEntry
  entry_word_order : WordOrder → ℕ → OwnEntry
  entry_long_order : LongOrder → ℕ → ℕ → OwnEntry
  entry_query : Query → OwnEntry
  entry_status : GateName → OwnEntry
  entry_take : OwnEntry
  entry_close : ℕ → OwnEntry
  entry_collect : OwnEntry

-- what is answered; a read command's answer is the words that it fixes
pub data Answer : Type 0 where
  answer_done : Answer
  answer_refused : Refusal → Answer
  answer_word : ℕ → Answer
  answer_words : ℕ → List ℕ → Answer
  answer_slip : ℕ → Answer

-- two words, the high one first
abbrev pub join : ℕ → ℕ → ℕ
join high low = high * 65536 + low

-- the record after an entry
abbrev pub gate_after : Gate → OwnEntry → Gate
gate_after g entry_reset = fresh_gate g.slip
gate_after g (entry_cycle i) = cycle i g
gate_after g (entry_order o) = run o g
gate_after g (entry_word_order o w) = run_word o w g
gate_after g (entry_long_order o high low) = run_long o (join high low) g
gate_after g (entry_query q) = g
gate_after g (entry_status w) = g
gate_after g entry_take = with_slip g true
gate_after g (entry_close w) = with_slip (with_events g (keep w g.events)) false
gate_after g entry_collect = with_found g g.events

-- an order that runs, or is refused for its value
abbrev pub order_answer : Bool → Answer
order_answer fits = cond fits answer_done (answer_refused OutOfRange)

-- the words of a number
abbrev pub two_word_answer : ℕ → Answer
two_word_answer n = answer_words (n / 65536) (n % 65536 ∷ [])

-- what gate k, 0 for gate 1 and 1 for gate 2, answers to an entry
abbrev pub entry_answer : ℕ → Gate → OwnEntry → Answer
entry_answer k g entry_reset = answer_done
entry_answer k g (entry_cycle i) = answer_done
entry_answer k g (entry_order o) = answer_done
entry_answer k g (entry_word_order o w) = order_answer (is_word_in_range o w)
entry_answer k g (entry_long_order o high low) = order_answer (is_long_in_range o (join high low))
entry_answer k g (entry_query q) = two_word_answer (query_answer q g)
entry_answer k g (entry_status w) = answer_words (status_word k g) []
entry_answer k g entry_take = answer_slip k
entry_answer k g (entry_close w) = answer_done
entry_answer k g entry_collect = answer_done

-- a gate after the entries of a list, the newest first
abbrev pub gate_after_list : List OwnEntry → Gate → Gate
gate_after_list [] g = g
gate_after_list (e ∷ es) g = gate_after (gate_after_list es g) e

-- a gate by its own list, from a new board
abbrev pub gate_by_own_list : List OwnEntry → Gate
gate_by_own_list es = gate_after_list es (fresh_gate false)
