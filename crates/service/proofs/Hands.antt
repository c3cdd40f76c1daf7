-- What the take of a slip does to the board, and its close after it.
use Rattle.std.proofs.Common.{◌≡◌, ℕ, true, false, [], ◌∷◌, Some, None, Option, is_some, refl}
use Rattle.stage.specs.declared.Stage.{Ghosts}
use Rattle.board.specs.declared.board.Board.{Board}
use Rattle.board.specs.declared.refusal.Refusal.{Refusal}
use Rattle.board.specs.declared.slip.Slip.{Slip}
use Rattle.board.specs.Own.{Answer, answer_done, answer_refused, answer_slip}
use Rattle.board.specs.Acts.{act_take, act_close, waiting_gate, state_of}
use Rattle.board.specs.Runs.{Performs, BoardUnchanged}
use Rattle.board.specs.Sequences.{PerformsAll}
use Rattle.board.proofs.Slips.{taken_gate, taken_none}
use Rattle.board.proofs.Sequences.{performed_one, performed_then}
use Rattle.service.specs.Turns.{Picks, Puts, service_acts}

module _ {S : Type 0} (m : Ghosts S) (b c : Board S m) where
  -- a take that is refused found no gate that waits, and changed nothing
  pub missed : (e : Refusal) → Performs m act_take (answer_refused e) b c → (waiting_gate (state_of b.table) ≡ None) × BoardUnchanged m b c
      × PerformsAll m (act_take ∷ []) b c
  missed e d = (taken_none (state_of b.table) e d.answers, d.kept e refl refl, performed_one m act_take (answer_refused e) b c d)

  -- a slip that is taken and closed is that of the lowest-numbered gate that waits
  pub had_turn : (d : Board S m) (k w : ℕ) (x : Answer) → Performs m act_take (answer_slip k) b c → Performs m (act_close k w) x c d
      → (Some k ≡ waiting_gate (state_of b.table)) × PerformsAll m (service_acts k w []) b d
  had_turn d k w x p q = (
    taken_gate (state_of b.table) k p.answers,
    performed_then m (act_close k w) x (act_take ∷ []) b c d (performed_one m act_take (answer_slip k) b c p) q,
  )

  -- the same of a slip that goes through a hand
  pub turned : (d : Board S m) (w : ℕ) (o : Option Slip) → true ≡ is_some o → Picks m o b c → Puts m w o c d
      → (k : ℕ) × (Some k ≡ waiting_gate (state_of b.table)) × PerformsAll m (service_acts k w []) b d
  turned d w (Some s) e p q = let had = had_turn d s.axis w answer_done p q in (s.axis, had.0, had.1)
  turned d w None e p q = absurd q

  -- an empty hand after a take
  pub idle : (o : Option Slip) → false ≡ is_some o → Picks m o b c → (waiting_gate (state_of b.table) ≡ None) × BoardUnchanged m b c
      × PerformsAll m (act_take ∷ []) b c
  idle None e p = missed p.0 p.1
  idle (Some s) e p = cc
