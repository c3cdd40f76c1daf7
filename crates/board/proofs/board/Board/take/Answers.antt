use Rattle.std.proofs.Common.{refl, ◌∙◌, rules}
use Rattle.board.proofs.Owed.{performs}
use Rattle.board.proofs.board.Board.take.Goals as goal

pub invariant_of-result : goal.invariant_of-result
invariant_of-result g c = record { known = c.in_ok-axis.ensures.bound }

pub returns : goal.returns
returns g c = record { performs = performs _ _ _ _ _ c.in_ok-axis.ensures.answer c.take.ensures.state refl (λ e. refl); unspent = refl }

pub returns-in_err-axis-clause-performs : goal.returns-in_err-axis-clause-performs
returns-in_err-axis-clause-performs g c = performs _ _ _ _ _ ((search rules) ∙ c.in_err-axis.ensures.answer) c.take.ensures.state refl (λ e. refl)
