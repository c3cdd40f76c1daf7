-- A table of two gates, by its numbers.
use Rattle.std.proofs.Common.{◌≡◌, ℕ, zero, suc, ◌<◌, Bool, true, false, cond, eqb, List, [], ◌∷◌, Result, Ok, Err, length, get_or, set, Some, sym, refl, ap, ◌∙◌, subst, arith, lit<, eqb-true}
use Rattle.gate.specs.declared.gate.Gate.{Gate}
use Rattle.gate.specs.Orders.{value_if_fits}
use Rattle.gate.specs.declared.orders.OutOfRange.{OutOfRange as Unfit}
use Rattle.gate.specs.Sound.{IsSound}
use Rattle.gate.specs.declared.inputs.Inputs.{Inputs}
use Rattle.gate.specs.Cycles.{cycle, gate_phases}
use Rattle.stage.specs.Pairs.{Pair}
use Rattle.board.specs.declared.refusal.Refusal.TheVariants.{NoSlip, OutOfRange}
use Rattle.board.specs.declared.table.Table.{Table}
use Rattle.board.specs.Acts.{blank_gate, state_of, gate_of, waiting_gate, enter, entry_transition, refuse, next_state, transition_answer, state_after_act, answer as answered, act_cycle, act_take, act_close, current_after_entry, port_after_entry, act_answer, IsSoundTable}
use Rattle.board.specs.Own.{OwnEntry, Answer, entry_take, entry_close, answer_done, answer_refused, answer_slip, gate_after, gate_after_list, order_answer}

-- what holds of both gates holds of each
pub by_two : (P : ℕ → Type 0) → P 0 → P 1 → (k : ℕ) → k < 2 → P k
by_two P p q zero h = p
by_two P p q (suc zero) h = q
by_two P p q (suc (suc n)) h = let no : ⊥ = omega arith in absurd no

-- the gate that stands at a place
pub gate_at : (t : Table) (k : ℕ) → k < 2 → gate_of (state_of t) k ≡ get_or t.gates k blank_gate
gate_at t = by_two (λ k. gate_of (state_of t) k ≡ get_or t.gates k blank_gate) refl refl

pub sound_at : (t : Table) (k : ℕ) → k < 2 → IsSoundTable t → IsSound (get_or t.gates k blank_gate)
sound_at t k h f = by_two (λ k. IsSound (get_or t.gates k blank_gate)) f.one f.two k h

pub set_sound : (gates : List Gate) (g : Gate) (i j : ℕ) → IsSound g → IsSound (get_or gates j blank_gate)
    → IsSound (get_or (set gates i g) j blank_gate)
set_sound [] g i j s h = h
set_sound (x ∷ xs) g zero zero s h = s
set_sound (x ∷ xs) g zero (suc j) s h = h
set_sound (x ∷ xs) g (suc i) zero s h = h
set_sound (x ∷ xs) g (suc i) (suc j) s h = set_sound xs g i j s h

-- a table in which one gate is changed
pub fit_set : (t u : Table) (k : ℕ) (g : Gate) → IsSoundTable t → IsSound g → u.gates ≡ set t.gates k g → u.current < 2 → IsSoundTable u
fit_set t u k g f s e c = record {
  current = c;
  one = subst (λ (l : List Gate). IsSound (get_or l 0 blank_gate)) (sym e) (set_sound t.gates g k 0 s f.one);
  two = subst (λ (l : List Gate). IsSound (get_or l 1 blank_gate)) (sym e) (set_sound t.gates g k 1 s f.two);
}

-- a gate that is stored is found, and the other stays
at_set : (gs : List Gate) (g : Gate) (k j : ℕ) → length gs ≡ 2 → k < 2 → j < 2
    → get_or (set gs k g) j blank_gate ≡ cond (eqb k j) g (get_or gs j blank_gate)
at_set [] g k j l h i = let no : ⊥ = omega arith in absurd no
at_set (x ∷ []) g k j l h i = let no : ⊥ = omega arith in absurd no
at_set (x ∷ y ∷ []) g zero zero l h i = refl
at_set (x ∷ y ∷ []) g zero (suc zero) l h i = refl
at_set (x ∷ y ∷ []) g (suc zero) zero l h i = refl
at_set (x ∷ y ∷ []) g (suc zero) (suc zero) l h i = refl
at_set (x ∷ y ∷ []) g zero (suc (suc j)) l h i = let no : ⊥ = omega arith in absurd no
at_set (x ∷ y ∷ []) g (suc zero) (suc (suc j)) l h i = let no : ⊥ = omega arith in absurd no
at_set (x ∷ y ∷ []) g (suc (suc k)) j l h i = let no : ⊥ = omega arith in absurd no
at_set (x ∷ y ∷ z ∷ zs) g k j l h i = let no : ⊥ = omega arith in absurd no

-- what an entry makes of the gate that it is for, and of the other
by_entry : (k j : ℕ) (e : OwnEntry) (x g : Gate) → (eqb k j ≡ true → g ≡ gate_after x e)
    → cond (eqb k j) g x ≡ gate_after_list (cond (eqb k j) (e ∷ []) []) x
by_entry k j e x g h = go (eqb k j) h
  where
    go : (b : Bool) → (b ≡ true → g ≡ gate_after x e) → cond b g x ≡ gate_after_list (cond b (e ∷ []) []) x
    go true h = h refl
    go false h = refl

-- a table in which an entry changed the gate that it is for
pub entered : (t u : Table) (k : ℕ) (e : OwnEntry) (g : Gate) → length t.gates ≡ 2 → k < 2 → u.gates ≡ set t.gates k g
    → g ≡ gate_after (get_or t.gates k blank_gate) e
    → u.current ≡ current_after_entry t.current k e → u.port ≡ port_after_entry (state_of t) k e
    → state_of u ≡ next_state (state_of t) (enter k e)
entered t u k e g l h gates is current port =
    let at : (j : ℕ) → j < 2 → get_or u.gates j blank_gate ≡ gate_after_list (cond (eqb k j) (e ∷ []) []) (get_or t.gates j blank_gate) =
    λ j i. ap (λ gs. get_or gs j blank_gate) gates
    ∙ (at_set t.gates g k j l h i
    ∙ by_entry k j e (get_or t.gates j blank_gate) g (λ same. is ∙ ap (λ n. gate_after (get_or t.gates n blank_gate) e) (eqb-true k j same))) in
    let one = at 0 (lit< tt) in
    let two = at 1 (lit< tt) in
    cc (one, two, current, port)

-- an order's answer, by its range
abbrev pub answer_of_range : Result (Unit {0}) Unfit → Answer
answer_of_range (Ok _) = answer_done
answer_of_range (Err e) = answer_refused OutOfRange

pub answer_of_value : (fits : Bool) → answer_of_range (value_if_fits fits tt) ≡ act_answer (order_answer fits)
answer_of_value true = refl
answer_of_value false = refl

-- both gates after a cycle
module _ (t u : Table) (x y : Gate) (two_long : length t.gates ≡ 2) (gates : u.gates ≡ set (set t.gates 0 x) 1 y) where
  both_set : (gs : List Gate) → length gs ≡ 2
      → (get_or (set (set gs 0 x) 1 y) 0 blank_gate ≡ x) × (get_or (set (set gs 0 x) 1 y) 1 blank_gate ≡ y)
  both_set [] e = let no : ⊥ = omega arith in absurd no
  both_set (a ∷ []) e = let no : ⊥ = omega arith in absurd no
  both_set (a ∷ b ∷ gs) e = (refl, refl)

  both_are : (get_or u.gates 0 blank_gate ≡ x) × (get_or u.gates 1 blank_gate ≡ y)
  both_are = subst (λ gs. (get_or gs 0 blank_gate ≡ x) × (get_or gs 1 blank_gate ≡ y)) (sym gates) (both_set t.gates two_long)

  pub both_cycled : (l r : Inputs) → u.current ≡ t.current → u.port ≡ t.port → x ≡ cycle l (get_or t.gates 0 blank_gate)
      → y ≡ cycle r (get_or (set t.gates 0 x) 1 blank_gate) → state_of u ≡ state_after_act (state_of t) (act_cycle l r)
  both_cycled l r current port e d =
      let one = both_are.0 ∙ e in
      let two = both_are.1 ∙ (d ∙ ap (cycle r) (at_set t.gates x 0 1 two_long (lit< tt) (lit< tt))) in
      cc (one, two, current, port)

  pub both_shown : (a b : Pair) → a ≡ gate_phases x → b ≡ gate_phases y
      → ◌≡◌ {A = Pair × Pair} (a, b) (gate_phases (state_of u).one, gate_phases (state_of u).two)
  both_shown a b e d = cc (e ∙ ap gate_phases (sym both_are.0), d ∙ ap gate_phases (sym both_are.1))

  pub both_fit : IsSoundTable t → u.current < 2 → IsSound x → IsSound y → IsSoundTable u
  both_fit f c p q = record { current = c; one = subst IsSound (sym both_are.0) p; two = subst IsSound (sym both_are.1) q }

-- a slip that is taken
module _ (t : Table) (k : ℕ) (e : Some k ≡ waiting_gate (state_of t)) where
  pub take_answer : answer_slip k ≡ answered (state_of t) act_take
  take_answer = ap (λ o. transition_answer (state_of t) (entry_transition o entry_take)) e

  pub take_state : (u : Table) → state_of u ≡ next_state (state_of t) (enter k entry_take)
      → state_of u ≡ state_after_act (state_of t) act_take
  take_state u is = is ∙ ap (λ o. next_state (state_of t) (entry_transition o entry_take)) e

-- a slip that is closed
module _ (t : Table) (k w : ℕ) (h : k < 2) (e : (get_or t.gates k blank_gate).slip ≡ true) where
  close_way : true ≡ (gate_of (state_of t) k).slip
  close_way = sym (ap (λ g. g.slip) (gate_at t k h) ∙ e)

  pub close_answer : answer_done ≡ answered (state_of t) (act_close k w)
  close_answer = ap (λ b. transition_answer (state_of t) (cond b (enter k (entry_close w)) (refuse NoSlip))) close_way

  pub close_state : (u : Table) → state_of u ≡ next_state (state_of t) (enter k (entry_close w))
      → state_of u ≡ state_after_act (state_of t) (act_close k w)
  close_state u is = is ∙ ap (λ b. next_state (state_of t) (cond b (enter k (entry_close w)) (refuse NoSlip))) close_way
