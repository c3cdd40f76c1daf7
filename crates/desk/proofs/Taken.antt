-- Where the slip of a take is kept.
use Rattle.std.proofs.Common.{◌≡◌, ℕ, Bool, true, false, not, ◌&&◌, eqb, Some, None, Option, sym, refl, ap, ◌∙◌}
use Rattle.board.specs.declared.slip.Slip.{Slip}
use Rattle.board.specs.declared.refusal.Refusal.{Refusal}
use Rattle.board.specs.Own.{entry_take, answer_slip, answer_refused}
use Rattle.board.specs.Acts.{State, gate_of, is_waiting, enter, entry_transition, next_state, state_after_act, answer, act_take}
use Rattle.board.proofs.Owners.{lowest_is}
use Rattle.board.proofs.Slips.{taken_gate, taken_none}
use Rattle.desk.specs.Keeps.{is_kept_while_out, state_has_kept_slips}

none_held : (k : ℕ) (o : Option Slip) (out : Bool) → is_kept_while_out k o out ≡ true → out ≡ false → o ≡ None
none_held k None out h e = refl
none_held k (Some s) true h e = cc
none_held k (Some s) false h e = let no = and_false (eqb s.axis k) in cc
  where
    and_false : (b : Bool) → (b && false) ≡ false
    and_false true = refl
    and_false false = refl

pub fst : (a b : Bool) → (a && b) ≡ true → a ≡ true
fst true b h = refl
fst false b h = h

pub snd : (a b : Bool) → (a && b) ≡ true → b ≡ true
snd true b h = h
snd false b h = cc

unset : (b : Bool) → not b ≡ true → b ≡ false
unset true h = cc
unset false h = refl

-- a gate that a slip is lent for has none out
none_out : (s : State) (k : ℕ) → answer_slip k ≡ answer s act_take → (gate_of s k).slip ≡ false
none_out s k t = unset _ (snd _ _ (lowest_is is_waiting s k (sym (taken_gate s k t))).1.passes)

module _ (s : State) (first second : Option Slip) (h : state_has_kept_slips s first second ≡ true) where
  pub first_none : answer_slip 0 ≡ answer s act_take → first ≡ None
  first_none t =
      none_held 0 first s.one.slip (fst _ _ h) (none_out s 0 t)

  pub second_none : answer_slip 1 ≡ answer s act_take → second ≡ None
  second_none t =
      none_held 1 second s.two.slip (snd _ _ h) (none_out s 1 t)

  pub keeps_first : (z : State) (slip : Slip) → slip.axis ≡ 0 → answer_slip 0 ≡ answer s act_take → z ≡ state_after_act s act_take
      → state_has_kept_slips z (Some slip) second ≡ true
  keeps_first z slip g t e =
      let state : z ≡ next_state s (enter 0 entry_take) = e ∙ sym (ap (λ o. next_state s (entry_transition o entry_take)) (taken_gate s 0 t)) in
      let is : state_has_kept_slips z (Some slip) second ≡ (eqb 0 0 && true && is_kept_while_out 1 second s.two.slip) = ap (λ x. state_has_kept_slips x (Some slip) second) state ∙ ap (λ n. eqb n 0 && true && is_kept_while_out 1 second s.two.slip) g in
      is ∙ snd _ _ h

  pub keeps_second : (z : State) (slip : Slip) → slip.axis ≡ 1 → answer_slip 1 ≡ answer s act_take → z ≡ state_after_act s act_take
      → state_has_kept_slips z first (Some slip) ≡ true
  keeps_second z slip g t e =
      let state : z ≡ next_state s (enter 1 entry_take) = e ∙ sym (ap (λ o. next_state s (entry_transition o entry_take)) (taken_gate s 1 t)) in
      let is : state_has_kept_slips z first (Some slip) ≡ (is_kept_while_out 0 first s.one.slip && (eqb 1 1 && true)) = ap (λ x. state_has_kept_slips x first (Some slip)) state ∙ ap (λ n. is_kept_while_out 0 first s.one.slip && (eqb n 1 && true)) g in
      is ∙ ap (λ b. b && true) (fst _ _ h)

  pub keeps_none : (z : State) (e : Refusal) → answer_refused e ≡ answer s act_take → z ≡ state_after_act s act_take
      → state_has_kept_slips z first second ≡ true
  keeps_none z e t i =
      ap (λ x. state_has_kept_slips x first second) (i ∙ ap (λ o. next_state s (entry_transition o entry_take)) (taken_none s e t)) ∙ h
