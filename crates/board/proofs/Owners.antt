-- Whose an act is: what stands in an own list belongs there, and what belongs there stands in it.
use Rattle.std.proofs.Common.{◌≡◌, ◌≢◌, ℕ, zero, suc, ◌+◌, ◌-◌, ◌<◌, Bool, true, false, cond, eqb, ltb, ◌⊎◌, inl, inr, List, [], ◌∷◌, ◌++◌, length, Some, None, Option, Ok, Err, Result, sym, refl, ap, ◌∙◌, subst, arith, eqb-true}
use Rattle.std.proofs.lemmas.Bool.{eq-eqb, lt-ltb, ltb-true}
use Rattle.gate.specs.declared.gate.Gate.{Gate}
use Rattle.gate.specs.declared.orders.Order.TheVariants.{Update}
use Rattle.gate.specs.Events.{bit}
use Rattle.gate.specs.Queries.{is_calling}
use Rattle.stage.specs.Pairs.{is_gate}
use Rattle.board.specs.declared.command.Command.{Command}
use Rattle.board.specs.declared.command.Command.TheVariants.{Status, Ask, Now, Word, Long, MultiUpdate}
use Rattle.board.specs.declared.command.GateName.{GateName}
use Rattle.board.specs.declared.command.GateName.TheVariants.{First, Second, Calling, Current}
use Rattle.board.specs.declared.port.Port.{Port}
use Rattle.board.specs.declared.port.Port.TheVariants.{Idle, TakingWord, TakingHigh, TakingLow, TakingGates, Giving}
use Rattle.board.specs.declared.port.Incoming.{Incoming}
use Rattle.board.specs.declared.port.Incoming.TheVariants as incoming
use Rattle.board.specs.declared.port.Step.{Step}
use Rattle.board.specs.declared.port.Step.TheVariants as step
use Rattle.board.specs.declared.refusal.Refusal.{Refusal}
use Rattle.board.specs.declared.refusal.Refusal.TheVariants.{NoSlip}
use Rattle.board.specs.Collects.{has_room}
use Rattle.board.specs.Commands.{command_of}
use Rattle.board.specs.Ports.{command_step, write_step, read_step, start_step, port_step}
use Rattle.board.specs.Own.{OwnEntry, entry_reset, entry_cycle, entry_order, entry_word_order, entry_long_order, entry_query, entry_status, entry_take, entry_close, entry_collect, gate_after_list}
use Rattle.board.specs.Acts.{State, gate_of, Act, act_command, act_write, act_read, act_cycle, act_reset, act_take, act_close, act_collect, is_gate_counted, named_gate, lowest_gate, is_waiting, caller, waiting_gate, enter, entry_transition, refuse, multi_update, refuse_value, step_transition, transition, current_after, entries, state_after_act}
use Rattle.board.specs.Owners.{GivesCommand, IsLowest, IsNamed, Belongs, IsForeign, IsAtPort, SetsCurrent, GrowsByEntry}
use Rattle.board.specs.Runs.{state_after}
use Rattle.board.specs.Isolation.{own_list}
use Rattle.board.proofs.Lists.{after_gate}
use Rattle.board.proofs.Tables.{by_two}
use Rattle.board.proofs.Transitions.{Ordinary, collect_transition, by_one, by_if, by_step}

-- an entry that comes about where a test holds
tested : (b : Bool) (x e : OwnEntry) → cond b (x ∷ []) [] ≡ e ∷ [] → (b ≡ true) × (x ≡ e)
tested true x e h = (refl, cc)
tested false x e h = cc

-- an entry of gate j that stands in gate k's list
entry_at : (k j : ℕ) (x e : OwnEntry) (P : OwnEntry → Type 0) → (k ≡ j → P x) → cond (eqb j k) (x ∷ []) [] ≡ e ∷ [] → P e
entry_at k j x e P f h =
    let t = tested (eqb j k) x e h in
    subst P t.1 (f (sym (eqb-true j k t.0)))

stands_at : (k j : ℕ) (x : OwnEntry) → k ≡ j → cond (eqb j k) (x ∷ []) [] ≡ x ∷ []
stands_at k j x e = ap (λ n. cond (eqb n k) (x ∷ []) []) (sym e) ∙ ap (λ b. cond b (x ∷ []) []) (eq-eqb k k refl)

entry_if : (k : ℕ) (o : Option ℕ) (x e : OwnEntry) (P : OwnEntry → Type 0) → (o ≡ Some k → P x) → entries k (entry_transition o x) ≡ e ∷ []
    → P e
entry_if k (Some j) x e P f h = entry_at k j x e P (λ i. f (ap Some (sym i))) h
entry_if k None x e P f h = cc

stands_if : (k : ℕ) (o : Option ℕ) (x : OwnEntry) → o ≡ Some k → entries k (entry_transition o x) ≡ x ∷ []
stands_if k o x e = ap (λ p. entries k (entry_transition p x)) e ∙ stands_at k k x refl

below_one : (P : ℕ → Type 0) → P 0 → (j : ℕ) → j < 1 → P j
below_one P p zero l = p
below_one P p (suc j) l = let no : ⊥ = omega arith in absurd no

-- which gate is the lowest-numbered that passes a test, by what the test says of both
by_tests : (test : Gate → Bool) (s : State) (a b : Bool) (k : ℕ) → test s.one ≡ a → test s.two ≡ b → cond a (Some 0) (cond b (Some 1) None) ≡ Some k → (k < 2) × IsLowest test s k
by_tests test s true b zero e d h = (omega arith, record { passes = e; lower = λ j l. let no : ⊥ = omega arith in absurd no })
by_tests test s true b (suc k) e d h = let never : ◌≡◌ {A = ℕ} 0 (suc k) = cc in absurd (omega arith)
by_tests test s false true zero e d h = let never : ◌≡◌ {A = ℕ} 1 0 = cc in absurd (omega arith)
by_tests test s false true (suc zero) e d h = (omega arith, record { passes = d; lower = below_one (λ j. test (gate_of s j) ≡ false) e })
by_tests test s false true (suc (suc k)) e d h = let never : ◌≡◌ {A = ℕ} 1 (suc (suc k)) = cc in absurd (omega arith)
by_tests test s false false k e d h = cc

pub lowest_is : (test : Gate → Bool) (s : State) (k : ℕ) → lowest_gate test s ≡ Some k → (k < 2) × IsLowest test s k
lowest_is test s k h = by_tests test s (test s.one) (test s.two) k refl refl h

is_lowest : (test : Gate → Bool) (s : State) (k : ℕ) → k < 2 → IsLowest test s k → lowest_gate test s ≡ Some k
is_lowest test s zero l i = ap (λ a. cond a (Some 0) (cond (test s.two) (Some 1) None)) i.passes
is_lowest test s (suc zero) l i =
    ap (λ a. cond a (Some 0) (cond (test s.two) (Some 1) None)) (i.lower 0 (omega arith)) ∙ ap (λ b. cond b (Some 1) None) i.passes
is_lowest test s (suc (suc k)) l i = let no : ⊥ = omega arith in absurd no

named_is : (k : ℕ) (s : State) (w : GateName) → named_gate s w ≡ Some k → IsNamed s w k
named_is k s First h = cc
named_is k s Second h = cc
named_is k s Calling h = (lowest_is is_calling s k h).1
named_is k s Current h = cc

named_gate_is : (k : ℕ) → k < 2 → (s : State) (w : GateName) → IsNamed s w k → named_gate s w ≡ Some k
named_gate_is k l s First h = ap Some (sym h)
named_gate_is k l s Second h = ap Some (sym h)
named_gate_is k l s Calling h = is_lowest is_calling s k l h
named_gate_is k l s Current h = ap Some (sym h)

-- the bit of gate k in a word of MULTI_UPDATE
bit_counts : (w k : ℕ) → w < 4 → k < 2 → is_gate_counted w k ≡ bit w k
bit_counts zero k h l = by_two (λ k. is_gate_counted 0 k ≡ bit 0 k) refl refl k l
bit_counts (suc zero) k h l = by_two (λ k. is_gate_counted 1 k ≡ bit 1 k) refl refl k l
bit_counts (suc (suc zero)) k h l = by_two (λ k. is_gate_counted 2 k ≡ bit 2 k) refl refl k l
bit_counts (suc (suc (suc zero))) k h l = by_two (λ k. is_gate_counted 3 k ≡ bit 3 k) refl refl k l
bit_counts (suc (suc (suc (suc w)))) k h l = let no : ⊥ = omega arith in absurd no

abbrev AtMostOne : List OwnEntry → Type 0
AtMostOne es = (es ≡ []) ⊎ ((e : OwnEntry) × (es ≡ e ∷ []))

single : Ordinary AtMostOne
single = record {
  none = inl refl;
  orders = λ o. inr (entry_order o, refl);
  words = λ o w. inr (entry_word_order o w, refl);
  longs = λ o high low. inr (entry_long_order o high low, refl);
  queries = λ q. inr (entry_query q, refl);
  statuses = λ w. inr (entry_status w, refl);
}

-- a MULTI_UPDATE's word is taken where its packet is open
gates_only : (p : Port) (i : Incoming) (w : ℕ) → port_step p i ≡ Ok (step.Gates w) → p ≡ TakingGates
gates_only p (incoming.Command b) w e = go p (command_of b) e
  where
    go : (p : Port) (c : Option Command) → command_step p c ≡ Ok (step.Gates w) → p ≡ TakingGates
    go Idle (Some (Status x)) e = cc
    go Idle (Some (Ask q)) e = cc
    go Idle (Some (Now o)) e = cc
    go Idle (Some (Word o)) e = cc
    go Idle (Some (Long o)) e = cc
    go Idle (Some MultiUpdate) e = cc
    go Idle None e = cc
    go (TakingWord o) c e = cc
    go (TakingHigh o) c e = cc
    go (TakingLow o high) c e = cc
    go TakingGates c e = refl
    go (Giving a t) c e = cc
gates_only p (incoming.Write x) w e = go p e
  where
    go : (p : Port) → write_step p x ≡ Ok (step.Gates w) → p ≡ TakingGates
    go Idle e = cc
    go (TakingWord o) e = cc
    go (TakingHigh o) e = cc
    go (TakingLow o high) e = cc
    go TakingGates e = refl
    go (Giving a t) e = cc
gates_only p incoming.Read w e = go p e
  where
    go : (p : Port) → read_step p ≡ Ok (step.Gates w) → p ≡ TakingGates
    go Idle e = cc
    go (TakingWord o) e = cc
    go (TakingHigh o) e = cc
    go (TakingLow o high) e = cc
    go TakingGates e = cc
    go (Giving a t) e = cc

-- the axis of a gate and its number
number_of : (n : ℕ) → is_gate n ≡ true → n ≡ n - 1 + 1
number_of zero h = cc
number_of (suc n) h = omega arith

-- an act at a state, and what of it stands in the own list of gate k
module _ (k : ℕ) (l : k < 2) (s : State) where
  by_command : (b : ℕ) (c : Option Command) (p : Port) (e : OwnEntry) → command_of b ≡ c → s.port ≡ p
      → entries k (step_transition s (command_step p c)) ≡ e ∷ []
      → Belongs k s (act_command b) e
  by_command b (Some (Status w)) Idle e d i h =
      entry_if k (named_gate s w) (entry_status w) e (Belongs k s (act_command b)) (λ n. (record { code = b; act = refl; names = d; idle = i }, named_is k s w n)) h
  by_command b (Some (Ask q)) Idle e d i h =
      entry_at k s.current (entry_query q) e (Belongs k s (act_command b)) (λ n. (record { code = b; act = refl; names = d; idle = i }, n)) h
  by_command b (Some (Now o)) Idle e d i h =
      entry_at k s.current (entry_order o) e (Belongs k s (act_command b)) (λ n. inl (record { code = b; act = refl; names = d; idle = i }, n)) h
  by_command b (Some (Word o)) Idle e d i h = cc
  by_command b (Some (Long o)) Idle e d i h = cc
  by_command b (Some MultiUpdate) Idle e d i h = cc
  by_command b None Idle e d i h = cc
  by_command b c (TakingWord o) e d i h = cc
  by_command b c (TakingHigh o) e d i h = cc
  by_command b c (TakingLow o high) e d i h = cc
  by_command b c TakingGates e d i h = cc
  by_command b c (Giving w t) e d i h = cc

  by_write : (w : ℕ) (p : Port) (e : OwnEntry) → s.port ≡ p → entries k (step_transition s (write_step p w)) ≡ e ∷ []
      → Belongs k s (act_write w) e
  by_write w Idle e i h = cc
  by_write w (TakingWord o) e i h = entry_at k s.current (entry_word_order o w) e (Belongs k s (act_write w)) (λ n. (refl, i, n)) h
  by_write w (TakingHigh o) e i h = cc
  by_write w (TakingLow o high) e i h = entry_at k s.current (entry_long_order o high w) e (Belongs k s (act_write w)) (λ n. (refl, i, n)) h
  by_write w TakingGates e i h = go (ltb w 4) refl h
    where
      go : (t : Bool) → ltb w 4 ≡ t → entries k (cond t (multi_update w) refuse_value) ≡ e ∷ [] → Belongs k s (act_write w) e
      go true r h =
          let t = tested (is_gate_counted w k) (entry_order Update) e h in
          let range = ltb-true w 4 r in
          subst (Belongs k s (act_write w)) t.1 (inr (record { word = w; act = refl; taking = i; range = range; counted = sym (bit_counts w k range l) ∙ t.0; order = refl }))
      go false r h = cc
  by_write w (Giving a t) e i h = cc

  by_read : (p : Port) (e : OwnEntry) → entries k (step_transition s (read_step p)) ≡ e ∷ [] → Belongs k s act_read e
  by_read Idle e h = cc
  by_read (TakingWord o) e h = cc
  by_read (TakingHigh o) e h = cc
  by_read (TakingLow o high) e h = cc
  by_read TakingGates e h = cc
  by_read (Giving w t) e h = cc

  -- what stands in the list belongs there
  pub belongs : (a : Act) (e : OwnEntry) → entries k (transition s a) ≡ e ∷ [] → Belongs k s a e
  belongs (act_command b) e h = by_command b (command_of b) s.port e refl refl h
  belongs (act_write w) e h = by_write w s.port e refl h
  belongs act_read e h = by_read s.port e h
  belongs (act_cycle i j) e h =
      subst (Belongs k s (act_cycle i j)) (tested true (entry_cycle (cond (eqb k 0) i j)) e h).1 (i, j, refl, refl)
  belongs act_reset e h = subst (Belongs k s act_reset) (tested true entry_reset e h).1 refl
  belongs act_take e h = entry_if k (waiting_gate s) entry_take e (Belongs k s act_take) (λ n. (refl, (lowest_is is_waiting s k n).1)) h
  belongs (act_close j w) e h = go (gate_of s j).slip refl h
    where
      go : (t : Bool) → (gate_of s j).slip ≡ t → entries k (cond t (enter j (entry_close w)) (refuse NoSlip)) ≡ e ∷ []
          → Belongs k s (act_close j w) e
      go true r h =
          entry_at k j (entry_close w) e (Belongs k s (act_close j w)) (λ n. (ap (λ i. act_close i w) (sym n), ap (λ i. (gate_of s i).slip) n ∙ r)) h
      go false r h = cc
  belongs (act_collect n lent) e h = go (is_gate n) (has_room n (gate_of s (n - 1)) lent) refl refl h
    where
      go : (a b : Bool) → is_gate n ≡ a → has_room n (gate_of s (n - 1)) lent ≡ b → entries k (collect_transition n a b) ≡ e ∷ []
          → Belongs k s (act_collect n lent) e
      go true true known fits h =
          entry_at k (n - 1) entry_collect e (Belongs k s (act_collect n lent)) (λ i. let is : n ≡ k + 1 = number_of n known ∙ ap (λ j. j + 1) (sym i) in (lent, ap (λ j. act_collect j lent) is, ap (λ j. has_room j (gate_of s k) lent) (sym is) ∙ (ap (λ j. has_room n (gate_of s j) lent) i ∙ fits))) h
      go true false known fits h = cc
      go false b known fits h = cc

  command_stands : (a : Act) (c : Command) → GivesCommand s a c
      → entries k (transition s a) ≡ entries k (step_transition s (start_step (Some c)))
  command_stands a c g =
      ap (λ x. entries k (transition s x)) g.act
      ∙ (ap (λ p. entries k (step_transition s (command_step p (command_of g.code)))) g.idle ∙ ap (λ o. entries k (step_transition s (start_step o))) g.names)

  write_stands : (a : Act) (w : ℕ) (p : Port) → a ≡ act_write w → s.port ≡ p
      → entries k (transition s a) ≡ entries k (step_transition s (write_step p w))
  write_stands a w p e i = ap (λ x. entries k (transition s x)) e ∙ ap (λ q. entries k (step_transition s (write_step q w))) i

  -- what belongs to the list stands in it
  pub stands : (a : Act) (e : OwnEntry) → Belongs k s a e → entries k (transition s a) ≡ e ∷ []
  stands a entry_reset b = ap (λ x. entries k (transition s x)) b
  stands a (entry_cycle i) b = ap (λ x. entries k (transition s x)) b.2 ∙ ap (λ x. entry_cycle x ∷ []) (sym b.3)
  stands a (entry_order o) (inl b) = command_stands a (Now o) b.0 ∙ stands_at k s.current (entry_order o) b.1
  stands a (entry_order o) (inr b) =
      write_stands a b.word TakingGates b.act b.taking
      ∙ (ap (λ t. entries k (cond t (multi_update b.word) refuse_value)) (lt-ltb b.word 4 b.range)
      ∙ (ap (λ t. cond t (entry_order Update ∷ []) []) (bit_counts b.word k b.range l ∙ b.counted) ∙ ap (λ x. entry_order x ∷ []) (sym b.order)))
  stands a (entry_word_order o w) b = write_stands a w (TakingWord o) b.0 b.1 ∙ stands_at k s.current (entry_word_order o w) b.2
  stands a (entry_long_order o high low) b =
      write_stands a low (TakingLow o high) b.0 b.1 ∙ stands_at k s.current (entry_long_order o high low) b.2
  stands a (entry_query q) b = command_stands a (Ask q) b.0 ∙ stands_at k s.current (entry_query q) b.1
  stands a (entry_status w) b = command_stands a (Status w) b.0 ∙ stands_if k (named_gate s w) (entry_status w) (named_gate_is k l s w b.1)
  stands a entry_take b = ap (λ x. entries k (transition s x)) b.0 ∙ stands_if k (waiting_gate s) entry_take (is_lowest is_waiting s k l b.1)
  stands a (entry_close w) b =
      ap (λ x. entries k (transition s x)) b.0
      ∙ (ap (λ t. entries k (cond t (enter k (entry_close w)) (refuse NoSlip))) b.1 ∙ stands_at k k (entry_close w) refl)
  stands a entry_collect (lent, is, fits) = ap (λ x. entries k (transition s x)) is ∙ collects k l fits
    where
      collects : (k : ℕ) → k < 2 → has_room (k + 1) (gate_of s k) lent ≡ true → entries k (transition s (act_collect (k + 1) lent)) ≡ entry_collect ∷ []
      collects =
          by_two (λ k. has_room (k + 1) (gate_of s k) lent ≡ true → entries k (transition s (act_collect (k + 1) lent)) ≡ entry_collect ∷ [])
          (λ fits. ap (λ t. entries 0 (collect_transition 1 true t)) fits)
          (λ fits. ap (λ t. entries 1 (collect_transition 2 true t)) fits)

  pub at_most_one : (a : Act) → AtMostOne (entries k (transition s a))
  at_most_one (act_command b) = by_step single k s (port_step s.port (incoming.Command b))
  at_most_one (act_write w) = by_step single k s (port_step s.port (incoming.Write w))
  at_most_one act_read = by_step single k s (port_step s.port incoming.Read)
  at_most_one (act_cycle i j) = inr (entry_cycle (cond (eqb k 0) i j), refl)
  at_most_one act_reset = inr (entry_reset, refl)
  at_most_one act_take = by_if single k (waiting_gate s) entry_take (inr (entry_take, refl))
  at_most_one (act_close j w) = go (gate_of s j).slip
    where
      go : (t : Bool) → AtMostOne (entries k (cond t (enter j (entry_close w)) (refuse NoSlip)))
      go true = by_one single (eqb j k) (entry_close w) (inr (entry_close w, refl))
      go false = inl refl
  at_most_one (act_collect n lent) = go (is_gate n) (has_room n (gate_of s (n - 1)) lent)
    where
      go : (a b : Bool) → AtMostOne (entries k (collect_transition n a b))
      go true true = by_one single (eqb (n - 1) k) entry_collect (inr (entry_collect, refl))
      go true false = inl refl
      go false b = inl refl

  -- an act that makes no entry leaves the gate's record as it was
  pub no_entry : (a : Act) → IsForeign k s a → entries k (transition s a) ≡ []
  no_entry a foreign = go (at_most_one a)
    where
      go : AtMostOne (entries k (transition s a)) → entries k (transition s a) ≡ []
      go (inl e) = e
      go (inr p) = absurd (foreign p.0 (belongs a p.0 p.1))

  pub spared_gate : (a : Act) → IsForeign k s a → gate_of (state_after_act s a) k ≡ gate_of s k
  spared_gate a foreign = after_gate s a k l ∙ ap (λ es. gate_after_list es (gate_of s k)) (no_entry a foreign)

  -- what comes to the port, but a word of MULTI_UPDATE, leaves a gate that is not current as it was
  off_current : (x : OwnEntry) → (k ≡ s.current → ⊥) → gate_after_list (cond (eqb s.current k) (x ∷ []) []) (gate_of s k) ≡ gate_of s k
  off_current x apart = go (eqb s.current k) refl
    where
      go : (t : Bool) → eqb s.current k ≡ t → gate_after_list (cond t (x ∷ []) []) (gate_of s k) ≡ gate_of s k
      go true e = absurd (apart (sym (eqb-true s.current k e)))
      go false e = refl

  off_status : (o : Option ℕ) (w : GateName) → gate_after_list (entries k (entry_transition o (entry_status w))) (gate_of s k) ≡ gate_of s k
  off_status (Some j) w = go (eqb j k)
    where
      go : (t : Bool) → gate_after_list (cond t (entry_status w ∷ []) []) (gate_of s k) ≡ gate_of s k
      go true = refl
      go false = refl
  off_status None w = refl

  off_step : (r : Result Step Refusal) → ((w : ℕ) → r ≡ Ok (step.Gates w) → ⊥) → (k ≡ s.current → ⊥)
      → gate_after_list (entries k (step_transition s r)) (gate_of s k) ≡ gate_of s k
  off_step (Err e) gates apart = refl
  off_step (Ok step.Wait) gates apart = refl
  off_step (Ok (step.Status w)) gates apart = off_status (named_gate s w) w
  off_step (Ok (step.Ask q)) gates apart = off_current (entry_query q) apart
  off_step (Ok (step.Run o)) gates apart = off_current (entry_order o) apart
  off_step (Ok (step.Word o w)) gates apart = off_current (entry_word_order o w) apart
  off_step (Ok (step.Long o high low)) gates apart = off_current (entry_long_order o high low) apart
  off_step (Ok (step.Gates w)) gates apart = absurd (gates w refl)
  off_step (Ok (step.Give w)) gates apart = refl

  pub other_gate : (a : Act) → IsAtPort a → (s.port ≡ TakingGates → ⊥) → (k ≡ s.current → ⊥) → gate_of (state_after_act s a) k ≡ gate_of s k
  other_gate (act_command b) at taking apart =
      after_gate s (act_command b) k l ∙ off_step (port_step s.port (incoming.Command b)) (λ w e. taking (gates_only s.port (incoming.Command b) w e)) apart
  other_gate (act_write x) at taking apart =
      after_gate s (act_write x) k l ∙ off_step (port_step s.port (incoming.Write x)) (λ w e. taking (gates_only s.port (incoming.Write x) w e)) apart
  other_gate act_read at taking apart =
      after_gate s act_read k l ∙ off_step (port_step s.port incoming.Read) (λ w e. taking (gates_only s.port incoming.Read w e)) apart
  other_gate a at taking apart = absurd at

-- which gate is current
current_stays : (s : State) (b : ℕ) (c : Option Command) (p : Port) → command_of b ≡ c → s.port ≡ p
    → ((k : ℕ) → k < 2 → (w : GateName) → Belongs k s (act_command b) (entry_status w) → ⊥)
    → current_after s.current (step_transition s (command_step p c)) ≡ s.current
current_stays s b (Some (Status First)) Idle d i foreign = absurd (foreign 0 (omega arith) First (record { code = b; act = refl; names = d; idle = i }, refl))
current_stays s b (Some (Status Second)) Idle d i foreign = absurd (foreign 1 (omega arith) Second (record { code = b; act = refl; names = d; idle = i }, refl))
current_stays s b (Some (Status Calling)) Idle d i foreign = go (caller s) refl
  where
    go : (o : Option ℕ) → caller s ≡ o → current_after s.current (entry_transition o (entry_status Calling)) ≡ s.current
    go (Some j) e =
        let is = lowest_is is_calling s j e in
        absurd (foreign j is.0 Calling (record { code = b; act = refl; names = d; idle = i }, is.1))
    go None e = refl
current_stays s b (Some (Status Current)) Idle d i foreign = refl
current_stays s b (Some (Ask q)) Idle d i foreign = refl
current_stays s b (Some (Now o)) Idle d i foreign = refl
current_stays s b (Some (Word o)) Idle d i foreign = refl
current_stays s b (Some (Long o)) Idle d i foreign = refl
current_stays s b (Some MultiUpdate) Idle d i foreign = refl
current_stays s b None Idle d i foreign = refl
current_stays s b c (TakingWord o) d i foreign = refl
current_stays s b c (TakingHigh o) d i foreign = refl
current_stays s b c (TakingLow o high) d i foreign = refl
current_stays s b c TakingGates d i foreign = refl
current_stays s b c (Giving w t) d i foreign = refl

write_stays : (s : State) (p : Port) (w : ℕ) → current_after s.current (step_transition s (write_step p w)) ≡ s.current
write_stays s Idle w = refl
write_stays s (TakingWord o) w = refl
write_stays s (TakingHigh o) w = refl
write_stays s (TakingLow o high) w = refl
write_stays s TakingGates w = go (ltb w 4)
  where
    go : (t : Bool) → current_after s.current (cond t (multi_update w) refuse_value) ≡ s.current
    go true = refl
    go false = refl
write_stays s (Giving a t) w = refl

read_stays : (s : State) (p : Port) → current_after s.current (step_transition s (read_step p)) ≡ s.current
read_stays s Idle = refl
read_stays s (TakingWord o) = refl
read_stays s (TakingHigh o) = refl
read_stays s (TakingLow o high) = refl
read_stays s TakingGates = refl
read_stays s (Giving w t) = refl

pub turns : (s : State) (a : Act) → SetsCurrent s a (state_after_act s a)
turns s a = record {
  reset = λ e. ap (λ x. (state_after_act s x).current) e;
  status = λ k l w b.
      ap (λ x. (state_after_act s x).current) b.0.act
      ∙ (ap (λ p. current_after s.current (step_transition s (command_step p (command_of b.0.code)))) b.0.idle
      ∙ (ap (λ o. current_after s.current (step_transition s (start_step o))) b.0.names
      ∙ ap (λ o. current_after s.current (entry_transition o (entry_status w))) (named_gate_is k l s w b.1)));
  stays = by a;
}
  where
    by : (a : Act) → a ≢ act_reset → ((k : ℕ) → k < 2 → (w : GateName) → Belongs k s a (entry_status w) → ⊥)
        → (state_after_act s a).current ≡ s.current
    by (act_command b) other foreign = current_stays s b (command_of b) s.port refl refl foreign
    by (act_write w) other foreign = write_stays s s.port w
    by act_read other foreign = read_stays s s.port
    by (act_cycle i j) other foreign = refl
    by act_reset other foreign = absurd (other refl)
    by act_take other foreign = go (waiting_gate s)
      where
        go : (o : Option ℕ) → current_after s.current (entry_transition o entry_take) ≡ s.current
        go (Some j) = refl
        go None = refl
    by (act_close j w) other foreign = go (gate_of s j).slip
      where
        go : (t : Bool) → current_after s.current (cond t (enter j (entry_close w)) (refuse NoSlip)) ≡ s.current
        go true = refl
        go false = refl
    by (act_collect n lent) other foreign = go (is_gate n) (has_room n (gate_of s (n - 1)) lent)
      where
        go : (a b : Bool) → current_after s.current (collect_transition n a b) ≡ s.current
        go true true = refl
        go true false = refl
        go false b = refl

grown : (es ds : List OwnEntry) → AtMostOne es → (es ++ ds ≡ ds) ⊎ ((e : OwnEntry) × (es ++ ds ≡ e ∷ ds))
grown es ds (inl n) = inl (ap (λ x. x ++ ds) n)
grown es ds (inr p) = inr (p.0, ap (λ x. x ++ ds) p.1)

front : (es ds : List OwnEntry) (e : OwnEntry) → AtMostOne es → es ++ ds ≡ e ∷ ds → es ≡ e ∷ []
front es ds e (inl n) g =
    let long : length ds ≡ length (e ∷ ds) = ap length (sym (ap (λ x. x ++ ds) n) ∙ g) in
    let no : ⊥ = omega arith in
    absurd no
front es ds e (inr p) g =
    let same : p.0 ∷ ds ≡ e ∷ ds = sym (ap (λ x. x ++ ds) p.1) ∙ g in
    let is : p.0 ≡ e = cc in
    p.1 ∙ ap (λ x. x ∷ []) is

-- an own list grows by what belongs to it
pub entered : (k : ℕ) → k < 2 → (a : Act) (h : List Act) → GrowsByEntry k (state_after h) a (own_list k h) (own_list k (a ∷ h))
entered k l a h =
    let s = state_after h in
    let es = entries k (transition s a) in
    record {
      one = grown es (own_list k h) (at_most_one k l s a);
      belongs = λ e g. belongs k l s a e (front es (own_list k h) e (at_most_one k l s a) g);
      stands = λ e b. ap (λ x. x ++ own_list k h) (stands k l s a e b);
    }
