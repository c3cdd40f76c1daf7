-- The slip mark and the bits found: no order, no question and no cycle changes them.
use Rattle.std.proofs.Common.{◌≡◌, ℕ, Bool, true, false, cond, List, [], ◌∷◌, refl, ap, ◌∙◌}
use Rattle.stage.specs.declared.Stage.{Ghosts}
use Rattle.gate.specs.declared.events.Events.{Events}
use Rattle.gate.specs.declared.gate.Gate.{Gate}
use Rattle.gate.specs.declared.inputs.Inputs.{Inputs}
use Rattle.gate.specs.declared.orders.Order.{Order}
use Rattle.gate.specs.declared.orders.Order.TheVariants.{Mode, Stop, Update, Auto, Break, Motor}
use Rattle.gate.specs.declared.orders.WordOrder.{WordOrder}
use Rattle.gate.specs.declared.orders.WordOrder.TheVariants as word
use Rattle.gate.specs.declared.orders.LongOrder.{LongOrder}
use Rattle.gate.specs.declared.orders.LongOrder.TheVariants as long
use Rattle.gate.specs.Cycles.{tick, add_count, trip, cycle}
use Rattle.gate.specs.Gates.{with_command_error}
use Rattle.gate.specs.Orders.{run, with_word, is_word_in_range, with_long, is_long_in_range}
use Rattle.gate.proofs.Steps.{meet_keeps}
use Rattle.board.specs.declared.board.Board.{Board}
use Rattle.board.specs.Own.{OwnEntry, entry_reset, entry_cycle, entry_order, entry_word_order, entry_long_order, entry_query, entry_status, entry_take, entry_close, entry_collect, gate_after_list, gate_by_own_list, join}
use Rattle.board.specs.Acts.{gate_of}
use Rattle.board.specs.Isolation.{own_list, bits_collected, KeepsFound}
use Rattle.board.proofs.Transitions.{Ordinary}
use Rattle.board.proofs.Lists.{gate_by_own_list_is}

abbrev pub marks : Gate → Bool × Events
marks g = (g.slip, g.found)

order_marks : (o : Order) (g : Gate) → marks (run o g) ≡ marks g
order_marks (Mode m) g = refl
order_marks Stop g = refl
order_marks Update g = refl
order_marks (Auto on) g = refl
order_marks (Break m) g = refl
order_marks (Motor kind) g = refl

word_marks : (o : WordOrder) (t : Bool) (w : ℕ) (g : Gate) → marks (cond t (with_word o w g) (with_command_error g)) ≡ marks g
word_marks word.BufferedPower true w g = refl
word_marks word.Power true w g = refl
word_marks word.ClearEvents true w g = refl
word_marks word.Mask true w g = refl
word_marks o false w g = refl

long_marks : (o : LongOrder) (t : Bool) (v : ℕ) (g : Gate) → marks (cond t (with_long o v g) (with_command_error g)) ≡ marks g
long_marks long.Destination true v g = refl
long_marks long.Velocity true v g = refl
long_marks long.Acceleration true v g = refl
long_marks long.Point true v g = refl
long_marks long.Actual true v g = refl
long_marks o false v g = refl

pub cycle_marks : (i : Inputs) (g : Gate) → marks (cycle i g) ≡ marks g
cycle_marks i g = meet_keeps marks i.home (trip i (add_count i.count (tick g))) refl refl

-- by an order or a question
pub marks_stay : (g : Gate) → Ordinary (λ es. marks (gate_after_list es g) ≡ marks g)
marks_stay g =
    record {
      none = refl;
      orders = λ o. order_marks o g;
      words = λ o w. word_marks o (is_word_in_range o w) w g;
      longs = λ o high low. long_marks o (is_long_in_range o (join high low)) (join high low) g;
      queries = λ _. refl;
      statuses = λ _. refl;
    }

-- by any own list
found_by_own_list : (es : List OwnEntry) → (gate_by_own_list es).found ≡ bits_collected es
found_by_own_list [] = refl
found_by_own_list (entry_reset ∷ es) = refl
found_by_own_list (entry_cycle i ∷ es) = ap (λ p. p.1) (cycle_marks i (gate_by_own_list es)) ∙ found_by_own_list es
found_by_own_list (entry_order o ∷ es) = ap (λ p. p.1) ((marks_stay (gate_by_own_list es)).orders o) ∙ found_by_own_list es
found_by_own_list (entry_word_order o w ∷ es) = ap (λ p. p.1) ((marks_stay (gate_by_own_list es)).words o w) ∙ found_by_own_list es
found_by_own_list (entry_long_order o h l ∷ es) = ap (λ p. p.1) ((marks_stay (gate_by_own_list es)).longs o h l) ∙ found_by_own_list es
found_by_own_list (entry_query q ∷ es) = found_by_own_list es
found_by_own_list (entry_status w ∷ es) = found_by_own_list es
found_by_own_list (entry_take ∷ es) = found_by_own_list es
found_by_own_list (entry_close w ∷ es) = found_by_own_list es
found_by_own_list (entry_collect ∷ es) = refl

-- on a board
pub keeps_found : {S : Type 0} (m : Ghosts S) (b : Board S m) → KeepsFound m b
keeps_found m b k l h came =
    ap (λ s. (gate_of s k).found) came.state ∙ (ap (λ g. g.found) (gate_by_own_list_is k l h) ∙ found_by_own_list (own_list k h))
