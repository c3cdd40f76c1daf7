-- A slip that was taken can be closed.
use Rattle.std.proofs.Common.{◌≡◌, ℕ, ◌<◌, true, cond, Some, None, Option, sym, refl, ap, ◌∙◌, arith}
use Rattle.board.specs.declared.refusal.Refusal.{Refusal}
use Rattle.board.specs.declared.refusal.Refusal.TheVariants.{NoSlip}
use Rattle.board.specs.Own.{entry_take, entry_close, answer_refused, answer_slip, answer_done}
use Rattle.board.specs.Acts.{State, gate_of, waiting_gate, enter, entry_transition, refuse, next_state, transition_answer, state_after_act, answer, act_take, act_close}
use Rattle.board.proofs.Tables.{by_two}

-- the gate of a slip that is taken is the one that waited
pub taken_gate : (s : State) (k : ℕ) → answer_slip k ≡ answer s act_take → Some k ≡ waiting_gate s
taken_gate s k h = go (waiting_gate s) h
  where
    go : (o : Option ℕ) → answer_slip k ≡ transition_answer s (entry_transition o entry_take) → Some k ≡ o
    go (Some j) h = cc
    go None h = cc

marked : (s : State) (k : ℕ) → k < 2 → (gate_of (next_state s (enter k entry_take)) k).slip ≡ true
marked s = by_two (λ k. (gate_of (next_state s (enter k entry_take)) k).slip ≡ true) refl refl

-- a slip that is taken is out
pub taken_out : (s z : State) (k : ℕ) → k < 2 → answer_slip k ≡ answer s act_take → z ≡ state_after_act s act_take
    → (gate_of z k).slip ≡ true
taken_out s z k l took is =
    let state : z ≡ next_state s (enter k entry_take) = is ∙ sym (ap (λ o. next_state s (entry_transition o entry_take)) (taken_gate s k took)) in
    ap (λ x. (gate_of x k).slip) state ∙ marked s k l

-- the close of a slip, straight after its take, is not refused
pub closes : (s z : State) (k w : ℕ) (e : Refusal) → k < 2 → answer_slip k ≡ answer s act_take → z ≡ state_after_act s act_take
    → answer_refused e ≡ answer z (act_close k w) → ⊥
closes s z k w e l took is h =
    let says_done : answer z (act_close k w) ≡ answer_done = ap (λ b. transition_answer z (cond b (enter k (entry_close w)) (refuse NoSlip))) (taken_out s z k l took is) in
    let no : ◌≡◌ {A = ℕ} 0 1 = cc in
    omega arith

-- a take that is refused found no gate that waits
pub taken_none : (s : State) (e : Refusal) → answer_refused e ≡ answer s act_take → waiting_gate s ≡ None
taken_none s e h = go (waiting_gate s) h
  where
    go : (o : Option ℕ) → answer_refused e ≡ transition_answer s (entry_transition o entry_take) → o ≡ None
    go (Some j) h = cc
    go None h = refl
