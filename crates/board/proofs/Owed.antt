-- What an act owes, from its answer, its state and its pairs.
use Rattle.std.proofs.Common.{◌≡◌, ℕ, ◌-◌, Bool, true, false, cond, ltb, ℤ, Some, None, Option, sym, refl, ap, ◌∙◌, subst, []}
use Rattle.stage.specs.declared.Stage.{Ghosts}
use Rattle.ring.specs.Listing.{Listing}
use Rattle.stage.specs.Pairs.{Pair, Pairs, pairs_after_show, is_gate}
use Rattle.gate.specs.Cycles.{gate_phases}
use Rattle.board.specs.declared.command.Command.{Command}
use Rattle.board.specs.declared.command.Command.TheVariants.{Status, Ask, Now, Word, Long, MultiUpdate}
use Rattle.board.specs.declared.port.Port.{Port}
use Rattle.board.specs.declared.port.Port.TheVariants.{Idle, TakingWord, TakingHigh, TakingLow, TakingGates, Giving}
use Rattle.board.specs.declared.refusal.Refusal.{Refusal}
use Rattle.board.specs.declared.refusal.Refusal.TheVariants.{OutOfRange, NoSlip}
use Rattle.board.specs.declared.collect.EventRecord.{EventRecord}
use Rattle.board.specs.Collects.{has_room}
use Rattle.board.specs.declared.board.Board.{Board}
use Rattle.board.specs.Own.{OwnEntry, entry_status, entry_take, entry_close, Answer, answer_refused, order_answer, entry_answer}
use Rattle.board.specs.Acts.{State, state_of, gate_of, waiting_gate, named_gate, entries, Act, act_command, act_write, act_read, act_cycle, act_reset, act_take, act_close, act_collect, Transition, refuse, enter, multi_update, refuse_value, entry_transition, step_transition, transition, state_past_port, next_state, transition_answer, act_answer, state_after_act, answer}
use Rattle.board.specs.Commands.{command_of}
use Rattle.board.specs.Ports.{port_after_command, command_step, port_after_write, write_step, port_after_read, read_step}
use Rattle.board.specs.Owners.{SetsCurrent}
use Rattle.board.proofs.Transitions.{collect_transition}
use Rattle.board.proofs.Owners.{no_entry, other_gate, spared_gate, turns}
use Rattle.board.specs.Runs.{axis_pair, state_after, closes_packet, is_stage_act, given_pairs, given_pairs_after, quantized_pairs, shown_pairs, Performs}

-- an order that is refused for its value is refused with 5
out_of_range : (fits : Bool) (e : Refusal) → act_answer (order_answer fits) ≡ answer_refused e → e ≡ OutOfRange
out_of_range true e h = cc
out_of_range false e h = cc

-- a refusal where no entry comes about, whatever gate is meant
entry_refused : (s : State) (k : Option ℕ) (x : OwnEntry) (e : Refusal) → ((j : ℕ) → act_answer (entry_answer j (gate_of s j) x) ≡ answer_refused e → ⊥)
    → transition_answer s (entry_transition k x) ≡ answer_refused e → entry_transition k x ≡ refuse e
entry_refused s (Some j) x e done h = absurd (done j h)
entry_refused s None x e done h = cc

-- what comes to the port and is refused, but a write for its value, leads nowhere and leaves the port as it stood
record LeadsNowhere (s : State) (m : Transition) (e : Refusal) (before after : Port) : Type 0 where
  pub refuses : m ≡ refuse e
  pub port : after ≡ before

command_refused : (s : State) (p : Port) (c : Option Command) (e : Refusal)
    → transition_answer s (step_transition s (command_step p c)) ≡ answer_refused e
    → LeadsNowhere s (step_transition s (command_step p c)) e p (port_after_command p c)
command_refused s Idle (Some (Status w)) e h = record { refuses = entry_refused s (named_gate s w) (entry_status w) e (λ j g. cc) h; port = refl }
command_refused s Idle (Some (Ask q)) e h = absurd cc
command_refused s Idle (Some (Now o)) e h = absurd cc
command_refused s Idle (Some (Word o)) e h = absurd cc
command_refused s Idle (Some (Long o)) e h = absurd cc
command_refused s Idle (Some MultiUpdate) e h = absurd cc
command_refused s Idle None e h = record { refuses = cc; port = refl }
command_refused s (TakingWord o) c e h = record { refuses = cc; port = refl }
command_refused s (TakingHigh o) c e h = record { refuses = cc; port = refl }
command_refused s (TakingLow o high) c e h = record { refuses = cc; port = refl }
command_refused s TakingGates c e h = record { refuses = cc; port = refl }
command_refused s (Giving w t) c e h = record { refuses = cc; port = refl }

write_refused : (s : State) (p : Port) (w : ℕ) (e : Refusal) → transition_answer s (step_transition s (write_step p w)) ≡ answer_refused e
    → (e ≡ OutOfRange → ⊥) → LeadsNowhere s (step_transition s (write_step p w)) e p (port_after_write p w)
write_refused s Idle w e h other = record { refuses = cc; port = refl }
write_refused s (TakingWord o) w e h other = absurd (other (out_of_range _ e h))
write_refused s (TakingHigh o) w e h other = absurd cc
write_refused s (TakingLow o high) w e h other = absurd (other (out_of_range _ e h))
write_refused s TakingGates w e h other = absurd (other (go (ltb w 4) h))
  where
    go : (t : Bool) → transition_answer s (cond t (multi_update w) refuse_value) ≡ answer_refused e → e ≡ OutOfRange
    go true h = cc
    go false h = cc
write_refused s (Giving a t) w e h other = record { refuses = cc; port = refl }

read_refused : (s : State) (p : Port) (e : Refusal) → transition_answer s (step_transition s (read_step p)) ≡ answer_refused e
    → LeadsNowhere s (step_transition s (read_step p)) e p (port_after_read p)
read_refused s Idle e h = record { refuses = cc; port = refl }
read_refused s (TakingWord o) e h = record { refuses = cc; port = refl }
read_refused s (TakingHigh o) e h = record { refuses = cc; port = refl }
read_refused s (TakingLow o high) e h = record { refuses = cc; port = refl }
read_refused s TakingGates e h = record { refuses = cc; port = refl }
read_refused s (Giving w t) e h = absurd cc

collect_refused : (s : State) (n : ℕ) (l : Listing EventRecord) (e : Refusal) → answer s (act_collect n l) ≡ answer_refused e
    → transition s (act_collect n l) ≡ refuse e
collect_refused s n l e = go (is_gate n) (has_room n (gate_of s (n - 1)) l)
  where
    go : (a b : Bool) → transition_answer s (collect_transition n a b) ≡ answer_refused e → collect_transition n a b ≡ refuse e
    go true true h = absurd cc
    go true false h = cc
    go false b h = cc

refused : (s : State) (a : Act) (e : Refusal) → answer s a ≡ answer_refused e → closes_packet a e ≡ false
    → LeadsNowhere s (transition s a) e s.port (state_past_port s a).port
refused s (act_command b) e h other = command_refused s s.port (command_of b) e h
refused s (act_write w) e h other = write_refused s s.port w e h (λ five. let g : true ≡ false = ap (closes_packet (act_write w)) (sym five) ∙ other in cc)
refused s act_read e h other = read_refused s s.port e h
refused s act_take e h other = record { refuses = entry_refused s (waiting_gate s) entry_take e (λ j g. cc) h; port = refl }
refused s (act_close k w) e h other = record { refuses = go (gate_of s k).slip h; port = refl }
  where
    go : (b : Bool) → transition_answer s (cond b (enter k (entry_close w)) (refuse NoSlip)) ≡ answer_refused e
        → cond b (enter k (entry_close w)) (refuse NoSlip) ≡ refuse e
    go true h = absurd cc
    go false h = cc
refused s (act_collect n l) e h other = record { refuses = collect_refused s n l e h; port = refl }
refused s (act_cycle i j) e h other = absurd cc
refused s act_reset e h other = absurd cc

refused_still : (s : State) (a : Act) (e : Refusal) → answer s a ≡ answer_refused e → closes_packet a e ≡ false → state_after_act s a ≡ s
refused_still s a e h other =
    let r = refused s a e h other in
    ap (next_state (state_past_port s a)) r.refuses ∙ past s a r.port
  where
    past : (s : State) (a : Act) → (state_past_port s a).port ≡ s.port → state_past_port s a ≡ s
    past s (act_command b) e = ap (λ p. record s { port = p }) e
    past s (act_write w) e = ap (λ p. record s { port = p }) e
    past s act_read e = ap (λ p. record s { port = p }) e
    past s a e = refl

-- an act that is refused does not reach the stage
refused_off : (s : State) (a : Act) (e : Refusal) → answer s a ≡ answer_refused e → is_stage_act a ≡ false
refused_off s (act_cycle i j) e h = cc
refused_off s act_reset e h = cc
refused_off s a e h = refl

-- nor does one that stands in no gate's own list
foreign_off : (k : ℕ) (s : State) (a : Act) → entries k (transition s a) ≡ [] → is_stage_act a ≡ false
foreign_off k s (act_cycle i j) h = cc
foreign_off k s act_reset h = cc
foreign_off k s a h = refl

module _ {S : Type 0} (m : Ghosts S) where
  pairs_still : (s : State) (a : Act) (before : Pairs) → is_stage_act a ≡ false → shown_pairs m.STEP s a before ≡ before
  pairs_still s a before off = ap (λ t. cond t (quantized_pairs m.STEP (given_pairs s a)) before) off

  -- what is shown after an act is what was last given, quantized
  pairs_given : (a : Act) (s : State) (given before : Pairs) → before ≡ quantized_pairs m.STEP given
      → shown_pairs m.STEP s a before ≡ quantized_pairs m.STEP (cond (is_stage_act a) (given_pairs s a) given)
  pairs_given a s given before h = go (is_stage_act a)
    where
      go : (t : Bool) → cond t (quantized_pairs m.STEP (given_pairs s a)) before ≡ quantized_pairs m.STEP (cond t (given_pairs s a) given)
      go true = refl
      go false = h

  pub performs : (a : Act) (x : Answer) (b c : Board S m) → x ≡ answer (state_of b.table) a
      → state_of c.table ≡ state_after_act (state_of b.table) a
      → m.pairs c.stage ≡ shown_pairs m.STEP (state_of b.table) a (m.pairs b.stage)
      → (is_stage_act a ≡ false → c.stage ≡ b.stage) → Performs m a x b c
  performs a x b c answers state pairs stage = record {
    answers = answers;
    state = state;
    pairs = pairs;
    stage = stage;
    kept = λ e h other.
        let off = refused_off (state_of b.table) a e (sym answers ∙ h) in
        record {
          state = state ∙ refused_still (state_of b.table) a e (sym answers ∙ h) other;
          stage = stage off;
          pairs = pairs ∙ pairs_still (state_of b.table) a (m.pairs b.stage) off;
        };
    sets_current = subst (SetsCurrent (state_of b.table) a) (sym state) (turns (state_of b.table) a);
    spared = λ k l no.
        let off = foreign_off k (state_of b.table) a (no_entry k l (state_of b.table) a no) in
        record {
          record_stays = ap (λ z. gate_of z k) state ∙ spared_gate k l (state_of b.table) a no;
          pair_stays = ap (λ p. axis_pair p k) (pairs ∙ pairs_still (state_of b.table) a (m.pairs b.stage) off);
        };
    packet = λ k l at taking no. ap (λ z. gate_of z k) state ∙ other_gate k l (state_of b.table) a at taking no;
    history = λ h came. record {
      state = state ∙ ap (λ s. state_after_act s a) came.state;
      pairs =
          pairs
          ∙ (ap (λ s. shown_pairs m.STEP s a (m.pairs b.stage)) came.state
          ∙ pairs_given a (state_after h) (given_pairs_after h) (m.pairs b.stage) came.pairs);
    };
  }

-- two shows, one for each gate
pub shown_both : (step : ℕ) (p q r x : Pairs) (a b c d : ℤ) → q ≡ pairs_after_show step p 1 a b → r ≡ pairs_after_show step q 2 c d
    → a ≡ x.one.0 → b ≡ x.one.1 → c ≡ x.two.0 → d ≡ x.two.1 → r ≡ quantized_pairs step x
shown_both step p q r x a b c d f s ea eb ec ed = s ∙ (ap (λ y. pairs_after_show step y 2 c d) f ∙ cc (ea, eb, ec, ed))

-- the numbers that a cycle answers are those of the gates after it
pub shown_cycle : (r : Pair × Pair) (z s : State) → ◌≡◌ {A = Pair × Pair} r (gate_phases z.one, gate_phases z.two) → z ≡ s
    → (r.0.0 ≡ (gate_phases s.one).0) × (r.0.1 ≡ (gate_phases s.one).1) × (r.1.0 ≡ (gate_phases s.two).0) × (r.1.1 ≡ (gate_phases s.two).1)
shown_cycle r z s e f =
    let one : r.0 ≡ gate_phases s.one = ap (λ x. x.0) e ∙ ap (λ x. gate_phases x.one) f in
    let two : r.1 ≡ gate_phases s.two = ap (λ x. x.1) e ∙ ap (λ x. gate_phases x.two) f in
    (ap (λ x. x.0) one, ap (λ x. x.1) one, ap (λ x. x.0) two, ap (λ x. x.1) two)
