use Rattle.std.proofs.Common.{refl}
use Rattle.board.proofs.Owed.{performs}
use Rattle.board.proofs.board.Board.close.Goals as goal

pub returns-in-Err : goal.returns-in-Err
returns-in-Err g c = record { performs = performs _ _ _ _ _ c.in-Err.ensures.answer c.close.ensures.state refl (λ e. refl); back = refl }

pub returns-in-Ok-clause-performs : goal.returns-in-Ok-clause-performs
returns-in-Ok-clause-performs g c = performs _ _ _ _ _ c.in-Ok.ensures.answer c.close.ensures.state refl (λ e. refl)
