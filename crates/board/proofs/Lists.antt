-- A gate of a board is its own list, replayed.
use Rattle.std.proofs.Common.{◌≡◌, ℕ, ◌-◌, ◌<◌, Bool, true, false, cond, eqb, List, [], ◌∷◌, ◌++◌, map, pos, sym, refl, ap, ◌∙◌, eqb-true}
use Rattle.stage.specs.Pairs.{Pair, zero_pairs, is_gate}
use Rattle.gate.specs.declared.gate.Gate.{Gate}
use Rattle.gate.specs.declared.orders.Order.TheVariants.{Update}
use Rattle.gate.specs.Cycles.{gate_phases}
use Rattle.gate.specs.Gates.{fresh_gate}
use Rattle.gate.specs.Orders.{is_word_in_range, is_long_in_range}
use Rattle.board.specs.declared.refusal.Refusal.TheVariants.{NoSlip}
use Rattle.board.specs.Collects.{has_room}
use Rattle.board.specs.declared.port.Incoming.TheVariants as incoming
use Rattle.board.specs.Ports.{port_step}
use Rattle.board.specs.Own.{order_answer, OwnEntry, entry_reset, entry_cycle, entry_order, entry_word_order, entry_long_order, entry_query, entry_status, entry_take, entry_close, entry_collect, Answer, join, gate_after, entry_answer, gate_after_list, gate_by_own_list}
use Rattle.board.specs.Acts.{act_answer, is_gate_counted, waiting_gate, State, gate_of, Act, act_command, act_write, act_read, act_cycle, act_reset, act_take, act_close, act_collect, Transition, refuse, wait, enter, multi_update, refuse_value, give, cycle_both, reset_both, transition, state_past_port, next_state, state_after_act, entries}
use Rattle.board.specs.Runs.{axis_pair, state_after, given_pairs, given_pairs_after}
use Rattle.board.specs.Isolation.{own_list, answer_to, own_answers}
use Rattle.board.proofs.Tables.{by_two}
use Rattle.board.proofs.Transitions.{Ordinary, collect_transition, by_one, by_if, by_step}

gate_after_list-++ : (es ds : List OwnEntry) (g : Gate) → gate_after_list (es ++ ds) g ≡ gate_after_list es (gate_after_list ds g)
gate_after_list-++ [] ds g = refl
gate_after_list-++ (e ∷ es) ds g = ap (λ x. gate_after x e) (gate_after_list-++ es ds g)

next_state_gate : (s : State) (m : Transition) (k : ℕ) → k < 2 → gate_of (next_state s m) k ≡ gate_after_list (entries k m) (gate_of s k)
next_state_gate s m = by_two (λ k. gate_of (next_state s m) k ≡ gate_after_list (entries k m) (gate_of s k)) refl refl

-- the port moves on without the gates
state_past_port_gate : (s : State) (a : Act) (k : ℕ) → gate_of (state_past_port s a) k ≡ gate_of s k
state_past_port_gate s (act_command b) k = refl
state_past_port_gate s (act_write w) k = refl
state_past_port_gate s act_read k = refl
state_past_port_gate s a k = refl

-- a gate after an act
pub after_gate : (s : State) (a : Act) (k : ℕ) → k < 2
    → gate_of (state_after_act s a) k ≡ gate_after_list (entries k (transition s a)) (gate_of s k)
after_gate s a k l =
    next_state_gate (state_past_port s a) (transition s a) k l ∙ ap (gate_after_list (entries k (transition s a))) (state_past_port_gate s a k)

-- each gate is what its own list makes of a new one
pub gate_by_own_list_is : (k : ℕ) → k < 2 → (h : List Act) → gate_of (state_after h) k ≡ gate_by_own_list (own_list k h)
gate_by_own_list_is k l [] = by_two (λ k. gate_of (state_after []) k ≡ fresh_gate false) refl refl k l
gate_by_own_list_is k l (a ∷ h) =
    after_gate (state_after h) a k l
    ∙ (ap (gate_after_list (entries k (transition (state_after h) a))) (gate_by_own_list_is k l h)
    ∙ sym (gate_after_list-++ (entries k (transition (state_after h) a)) (own_list k h) (fresh_gate false)))

-- the answers that a gate alone gives
abbrev pub entry_answers : ℕ → List OwnEntry → Gate → List Answer
entry_answers k [] g = []
entry_answers k (e ∷ es) g = entry_answer k (gate_after_list es g) e ∷ entry_answers k es g

entry_answers-++ : (k : ℕ) (es ds : List OwnEntry) (g : Gate)
    → entry_answers k (es ++ ds) g ≡ entry_answers k es (gate_after_list ds g) ++ entry_answers k ds g
entry_answers-++ k [] ds g = refl
entry_answers-++ k (e ∷ es) ds g = cc (gate_after_list-++ es ds g, entry_answers-++ k es ds g)

by_fit : (fits : Bool) → act_answer (order_answer fits) ≡ order_answer fits
by_fit true = refl
by_fit false = refl

-- what a transition answers to gate k's entries is what the gate alone answers
answers_are : (s : State) (m : Transition) (k : ℕ) → k < 2 → map (answer_to s m) (entries k m) ≡ entry_answers k (entries k m) (gate_of s k)
answers_are s (refuse r) k l = refl
answers_are s wait k l = refl
answers_are s (enter j e) k l = go (eqb j k) refl
  where
    at : (e : OwnEntry) → answer_to s (enter k e) e ≡ entry_answer k (gate_of s k) e
    at entry_reset = refl
    at (entry_cycle i) = refl
    at (entry_order o) = refl
    at (entry_word_order o w) = by_fit (is_word_in_range o w)
    at (entry_long_order o h w) = by_fit (is_long_in_range o (join h w))
    at (entry_query q) = refl
    at (entry_status w) = refl
    at entry_take = refl
    at (entry_close w) = refl
    at entry_collect = refl

    go : (b : Bool) → eqb j k ≡ b → map (answer_to s (enter j e)) (cond b (e ∷ []) []) ≡ entry_answers k (cond b (e ∷ []) []) (gate_of s k)
    go true h = ap (λ n. answer_to s (enter n e) e ∷ []) (eqb-true j k h) ∙ ap (λ x. x ∷ []) (at e)
    go false h = refl
answers_are s (multi_update w) k l = go (is_gate_counted w k)
  where
    go : (b : Bool)
        → map (answer_to s (multi_update w)) (cond b (entry_order Update ∷ []) []) ≡ entry_answers k (cond b (entry_order Update ∷ []) []) (gate_of s k)
    go true = refl
    go false = refl
answers_are s refuse_value k l = refl
answers_are s (give w) k l = refl
answers_are s (cycle_both i j) k l = refl
answers_are s reset_both k l = refl

pub own_answers_are : (k : ℕ) → k < 2 → (h : List Act) → own_answers k h ≡ entry_answers k (own_list k h) (fresh_gate false)
own_answers_are k l [] = refl
own_answers_are k l (a ∷ h) =
    let m = transition (state_after h) a in
    let es = entries k m in
    cc (answers_are (state_after h) m k l, gate_by_own_list_is k l h, own_answers_are k l h, entry_answers-++ k es (own_list k h) (fresh_gate false))

-- the numbers that a gate alone gives to the stage
abbrev pub display : List OwnEntry → Pair
display [] = (pos 0, pos 0)
display (entry_reset ∷ es) = (pos 0, pos 0)
display (entry_cycle i ∷ es) = gate_phases (gate_by_own_list (entry_cycle i ∷ es))
display (e ∷ es) = display es

-- an order or a question gives the stage nothing
displays : (es : List OwnEntry) → Ordinary (λ l. display (l ++ es) ≡ display es)
displays es = record { none = refl; orders = λ _. refl; words = λ _ _. refl; longs = λ _ _ _. refl; queries = λ _. refl; statuses = λ _. refl }

-- what a board last gave the stage for gate k is what the gate alone gave
pub displayed : (k : ℕ) → k < 2 → (h : List Act) → axis_pair (given_pairs_after h) k ≡ display (own_list k h)
displayed k l [] = by_two (λ k. axis_pair zero_pairs k ≡ (pos 0, pos 0)) refl refl k l
displayed k l (act_command b ∷ h) =
    displayed k l h ∙ sym (by_step (displays (own_list k h)) k (state_after h) (port_step (state_after h).port (incoming.Command b)))
displayed k l (act_write w ∷ h) =
    displayed k l h ∙ sym (by_step (displays (own_list k h)) k (state_after h) (port_step (state_after h).port (incoming.Write w)))
displayed k l (act_read ∷ h) =
    displayed k l h ∙ sym (by_step (displays (own_list k h)) k (state_after h) (port_step (state_after h).port incoming.Read))
displayed k l (act_cycle i j ∷ h) =
    by_two (λ k. axis_pair (given_pairs (state_after h) (act_cycle i j)) k ≡ gate_phases (gate_of (state_after (act_cycle i j ∷ h)) k)) refl refl k l
    ∙ ap gate_phases (gate_by_own_list_is k l (act_cycle i j ∷ h))
displayed k l (act_reset ∷ h) = by_two (λ k. axis_pair zero_pairs k ≡ (pos 0, pos 0)) refl refl k l
displayed k l (act_take ∷ h) = displayed k l h ∙ sym (by_if (displays (own_list k h)) k (waiting_gate (state_after h)) entry_take refl)
displayed k l (act_close j w ∷ h) = displayed k l h ∙ sym (by_slip (gate_of (state_after h) j).slip)
  where
    by_slip : (t : Bool) → display (entries k (cond t (enter j (entry_close w)) (refuse NoSlip)) ++ own_list k h) ≡ display (own_list k h)
    by_slip true = by_one (displays (own_list k h)) (eqb j k) (entry_close w) refl
    by_slip false = refl
displayed k l (act_collect n lent ∷ h) =
    displayed k l h ∙ sym (by_tests (is_gate n) (has_room n (gate_of (state_after h) (n - 1)) lent))
  where
    by_tests : (a b : Bool) → display (entries k (collect_transition n a b) ++ own_list k h) ≡ display (own_list k h)
    by_tests true true = by_one (displays (own_list k h)) (eqb (n - 1) k) entry_collect refl
    by_tests true false = refl
    by_tests false b = refl
