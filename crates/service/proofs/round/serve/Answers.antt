use Rattle.std.proofs.Common.{◌≡◌, true, Ok, Err, Result, is_ok, refl}
use Rattle.board.specs.declared.refusal.Refusal.{Refusal}
use Rattle.board.specs.declared.slip.Slip.{Slip}
use Rattle.board.specs.Own.{Answer, answer_refused}
use Rattle.board.specs.Acts.{state_of}
use Rattle.board.specs.Runs.{answer_of_close}
use Rattle.board.proofs.Slips.{closes}
use Rattle.service.proofs.Hands.{missed, had_turn}
use Rattle.service.proofs.round.serve.Goals as goal

-- a close that is not refused is accepted
accepted : (r : Result (Unit {0}) (Refusal × Slip)) (x : Answer) → answer_of_close r ≡ x → ((e : Refusal) → answer_refused e ≡ x → ⊥)
    → is_ok r ≡ true
accepted (Ok u) x h kept = refl
accepted (Err p) x h kept = absurd (kept p.0 h)

pub unwrap-requires : goal.unwrap-requires
unwrap-requires g c =
    accepted c.close.result _ c.close.ensures.performs.answers
    (λ e. closes (state_of c.args.board.now.table) (state_of c.take.new.self.table) c.in-Ok.slip.axis _ e
    c.in-Ok.slip.known c.in-Ok.ensures.performs.answers c.take.ensures.performs.state)

pub returns-in_default : goal.returns-in_default
returns-in_default g c = missed g.S.Stage c.args.board.now c.take.new.self c.in_default.field-0 c.in_default.ensures.performs

pub returns : goal.returns
returns g c =
    let k = c.in-Ok.slip.axis in
    let had = had_turn g.S.Stage c.args.board.now c.take.new.self c.close.new.self k c.args.word _ c.in-Ok.ensures.performs c.close.ensures.performs in
    (k, c.gate-gate.ensures, had.0, had.1)
