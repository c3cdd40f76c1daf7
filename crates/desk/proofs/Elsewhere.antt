-- What a close at another board leaves of the slips at two desks.
use Rattle.std.proofs.Common.{◌≡◌, ℕ, ◌-◌, ◌<◌, Bool, true, false, cond, not, ◌&&◌, Some, None, Ok, Err, Option, Result, sym, refl, ap, ◌∙◌, subst, eqb-true}
use Rattle.stage.specs.declared.Stage.{Ghosts}
use Rattle.stage.specs.Pairs.{is_gate}
use Rattle.board.specs.declared.board.Board.{Board}
use Rattle.board.specs.declared.refusal.Refusal.{Refusal}
use Rattle.board.specs.declared.refusal.Refusal.TheVariants.{NoSlip}
use Rattle.board.specs.declared.slip.Slip.{Slip}
use Rattle.board.specs.Own.{Answer, entry_close, answer_done, answer_refused}
use Rattle.board.specs.Acts.{State, act_close, state_of, gate_of, enter, refuse, next_state, transition_answer, state_after_act, answer}
use Rattle.board.specs.Runs.{Performs}
use Rattle.board.proofs.Tables.{by_two}
use Rattle.desk.specs.Keeps.{is_kept_while_out}
use Rattle.desk.specs.Closes.{ClosesAt, ClosesElsewhere}
use Rattle.desk.proofs.Taken.{fst, snd}

pub both : (a b : Bool) → a ≡ true → b ≡ true → (a && b) ≡ true
both a b p q = ap (λ x. x && b) p ∙ q

-- a close that is accepted found the slip out, and one that is refused did not
out : (s : State) (k w : ℕ) → answer_done ≡ answer s (act_close k w) → (gate_of s k).slip ≡ true
out s k w h = go (gate_of s k).slip h
  where
    go : (b : Bool) → answer_done ≡ transition_answer s (cond b (enter k (entry_close w)) (refuse NoSlip)) → b ≡ true
    go true h = refl
    go false h = cc

not_out : (s : State) (k w : ℕ) (e : Refusal) → answer_refused e ≡ answer s (act_close k w) → (gate_of s k).slip ≡ false
not_out s k w e h = go (gate_of s k).slip h
  where
    go : (b : Bool) → answer_refused e ≡ transition_answer s (cond b (enter k (entry_close w)) (refuse NoSlip)) → b ≡ false
    go true h = cc
    go false h = refl

by : (s z : State) (k w : ℕ) (b : Bool) → (gate_of s k).slip ≡ b → z ≡ state_after_act s (act_close k w)
    → z ≡ next_state s (cond b (enter k (entry_close w)) (refuse NoSlip))
by s z k w b p e = e ∙ ap (λ x. next_state s (cond x (enter k (entry_close w)) (refuse NoSlip))) p

own_mark : (s : State) (w k : ℕ) → k < 2 → (gate_of (next_state s (enter k (entry_close w))) k).slip ≡ false
own_mark s w = by_two (λ k. (gate_of (next_state s (enter k (entry_close w))) k).slip ≡ false) refl refl

other_mark : (s : State) (w k : ℕ) → k < 2 → (gate_of (next_state s (enter k (entry_close w))) (1 - k)).slip ≡ (gate_of s (1 - k)).slip
other_mark s w = by_two (λ k. (gate_of (next_state s (enter k (entry_close w))) (1 - k)).slip ≡ (gate_of s (1 - k)).slip) refl refl

none : (x : Bool) → not x ≡ true → x ≡ false
none true h = sym h
none false h = refl

-- gate k's places at the two desks: x is the mark at the first desk's board, and the close is made at the second desk's
module _ {R : Type 0} (n : Ghosts R) (k w : ℕ) (l : k < 2) (x : Bool) (b c : Board R n) where
  module _ (mine last theirs left : Option Slip) (h : is_kept_while_out k mine x ≡ true) where
    -- the slip that is closed is of gate k, and the mark at its own desk's board is set
    kept : (s : Slip) → mine ≡ Some s → is_kept_while_out k (Some s) x ≡ true
    kept s e = ap (λ o. is_kept_while_out k o x) (sym e) ∙ h

    known : (s : Slip) → mine ≡ Some s → s.axis ≡ k
    known s e = eqb-true _ _ (fst _ _ (kept s e))

    here : (s : Slip) (y : Answer) → mine ≡ Some s → Performs n (act_close s.axis w) y b c → Performs n (act_close k w) y b c
    here s y e d = subst (λ j. Performs n (act_close j w) y b c) (known s e) d

    accepted : (s : Slip) → mine ≡ Some s → Performs n (act_close s.axis w) answer_done b c
        → state_of c.table ≡ next_state (state_of b.table) (enter k (entry_close w))
    accepted s e d = let at = here s answer_done e d in by (state_of b.table) _ k w true (out (state_of b.table) k w at.answers) at.state

    stayed : (s : Slip) (f : Refusal) → mine ≡ Some s → Performs n (act_close s.axis w) (answer_refused f) b c
        → state_of c.table ≡ state_of b.table
    stayed s f e d =
        let at = here s (answer_refused f) e d in by (state_of b.table) _ k w false (not_out (state_of b.table) k w f at.answers) at.state

    -- what the second desk keeps for the gate afterwards
    pub theirs_after : (r : Option (Result (Unit {0}) Refusal)) → ClosesAt n w r b c mine last theirs left
        → is_kept_while_out k theirs (gate_of (state_of b.table) k).slip ≡ true
        → is_kept_while_out k left (gate_of (state_of c.table) k).slip ≡ true
    theirs_after None m i =
        ap (λ o. is_kept_while_out k o (gate_of (state_of c.table) k).slip) m.2 ∙ (ap (λ d. is_kept_while_out k theirs (gate_of (state_of d.table) k).slip) m.3 ∙ i)
    theirs_after (Some (Ok u)) m i =
        ap (λ o. is_kept_while_out k o (gate_of (state_of c.table) k).slip) m.4
        ∙ ap not (ap (λ z. (gate_of z k).slip) (accepted m.0 m.1 m.2) ∙ own_mark (state_of b.table) w k l)
    theirs_after (Some (Err e)) m i =
        ap (λ o. is_kept_while_out k o (gate_of (state_of c.table) k).slip) m.4 ∙ (ap (λ z. is_kept_while_out k theirs (gate_of z k).slip) (stayed m.0 e m.1 m.2) ∙ i)

    -- the other gate's mark stays
    pub rest_after : (r : Option (Result (Unit {0}) Refusal)) → ClosesAt n w r b c mine last theirs left
        → (gate_of (state_of c.table) (1 - k)).slip ≡ (gate_of (state_of b.table) (1 - k)).slip
    rest_after None m = ap (λ d. (gate_of (state_of d.table) (1 - k)).slip) m.3
    rest_after (Some (Ok u)) m = ap (λ z. (gate_of z (1 - k)).slip) (accepted m.0 m.1 m.2) ∙ other_mark (state_of b.table) w k l
    rest_after (Some (Err e)) m = ap (λ z. (gate_of z (1 - k)).slip) (stayed m.0 e m.1 m.2)

    pub ends : {S : Type 0} (o : Ghosts S) (a : Board S o) (gate : ℕ) → is_gate gate ≡ true → k ≡ gate - 1
        → (gate_of (state_of a.table) (gate - 1)).slip ≡ x → (r : Option (Result (Unit {0}) Refusal))
        → ClosesAt n w r b c mine last theirs left → ClosesElsewhere o n gate w r a a b c
    ends o a gate g e mark None m = (
      λ _. mark ∙ none x (ap (λ p. is_kept_while_out k p x) (sym m.0) ∙ h),
      record { state = refl; stage = refl; pairs = refl },
      record { state = ap (λ d. state_of d.table) m.3; stage = ap (λ d. d.stage) m.3; pairs = ap (λ d. n.pairs d.stage) m.3 },
    )
    ends o a gate g e mark (Some (Ok u)) m = (
      g,
      mark ∙ snd _ _ (kept m.0 m.1),
      record { state = refl; stage = refl; pairs = refl },
      subst (λ j. Performs n (act_close j w) answer_done b c) e (here m.0 answer_done m.1 m.2),
    )
    ends o a gate g e mark (Some (Err f)) m = (
      g,
      mark ∙ snd _ _ (kept m.0 m.1),
      record { state = refl; stage = refl; pairs = refl },
      subst (λ j. Performs n (act_close j w) (answer_refused f) b c) e (here m.0 (answer_refused f) m.1 m.2),
    )
