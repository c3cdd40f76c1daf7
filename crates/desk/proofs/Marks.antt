-- Which acts leave the slip marks alone.
use Rattle.std.proofs.Common.{◌≡◌, ℕ, ◌-◌, ◌<◌, Bool, true, false, cond, eqb, Option, refl, ap, ◌∙◌, lit<}
use Rattle.stage.specs.Pairs.{is_gate}
use Rattle.gate.specs.declared.gate.Gate.{Gate}
use Rattle.board.specs.declared.slip.Slip.{Slip}
use Rattle.board.specs.Own.{entry_collect, gate_after_list}
use Rattle.board.specs.Collects.{has_room}
use Rattle.board.specs.Ports.{port_step}
use Rattle.board.specs.declared.port.Incoming.TheVariants as incoming
use Rattle.board.specs.Acts.{State, Act, act_command, act_write, act_read, act_cycle, act_reset, act_take, act_close, act_collect, entries, transition, state_after_act, gate_of}
use Rattle.board.proofs.Transitions.{Ordinary, collect_transition, by_one, by_step}
use Rattle.board.proofs.Lists.{after_gate}
use Rattle.board.proofs.Marks.{marks_stay, cycle_marks}
use Rattle.desk.specs.Keeps.{state_has_kept_slips}

-- an order or a question leaves the mark of its gate
leaves : (g : Gate) → Ordinary (λ es. (gate_after_list es g).slip ≡ g.slip)
leaves g =
    record {
      none = refl;
      orders = λ o. ap (λ p. p.0) ((marks_stay g).orders o);
      words = λ o w. ap (λ p. p.0) ((marks_stay g).words o w);
      longs = λ o high low. ap (λ p. p.0) ((marks_stay g).longs o high low);
      queries = λ _. refl;
      statuses = λ _. refl;
    }

-- acts that are no slip's
abbrev pub is_no_slip_act : Act → Bool
is_no_slip_act act_take = false
is_no_slip_act (act_close k w) = false
is_no_slip_act a = true

act_slip : (k : ℕ) (s : State) (a : Act) (g : Gate) → is_no_slip_act a ≡ true → (gate_after_list (entries k (transition s a)) g).slip ≡ g.slip
act_slip k s (act_command b) g h = by_step (leaves g) k s (port_step s.port (incoming.Command b))
act_slip k s (act_write w) g h = by_step (leaves g) k s (port_step s.port (incoming.Write w))
act_slip k s act_read g h = by_step (leaves g) k s (port_step s.port incoming.Read)
act_slip k s (act_cycle i j) g h = ap (λ p. p.0) (cycle_marks (cond (eqb k 0) i j) g)
act_slip k s act_reset g h = refl
act_slip k s (act_collect n l) g h = go (is_gate n) (has_room n (gate_of s (n - 1)) l)
  where
    go : (a b : Bool) → (gate_after_list (entries k (collect_transition n a b)) g).slip ≡ g.slip
    go true true = by_one (leaves g) (eqb (n - 1) k) entry_collect refl
    go true false = refl
    go false b = refl
act_slip k s act_take g h = cc
act_slip k s (act_close j w) g h = cc

-- so they leave each gate's mark
act_mark : (k : ℕ) (s : State) (a : Act) → k < 2 → is_no_slip_act a ≡ true → (gate_of (state_after_act s a) k).slip ≡ (gate_of s k).slip
act_mark k s a l h = ap (λ x. x.slip) (after_gate s a k l) ∙ act_slip k s a (gate_of s k) h

-- the slips that are kept stay the right ones
pub still_keeps : (s z : State) (a : Act) (first second : Option Slip) → is_no_slip_act a ≡ true → z ≡ state_after_act s a
    → state_has_kept_slips s first second ≡ true → state_has_kept_slips z first second ≡ true
still_keeps s z a first second p e h =
    let one : z.one.slip ≡ s.one.slip = ap (λ x. x.one.slip) e ∙ act_mark 0 s a (lit< tt) p in
    let two : z.two.slip ≡ s.two.slip = ap (λ x. x.two.slip) e ∙ act_mark 1 s a (lit< tt) p in
    rw (one, two) h
