use Rattle.std.proofs.Common.{refl}
use Rattle.board.proofs.Owed.{performs}
use Rattle.board.proofs.board.Board.write.Goals as goal

pub returns : goal.returns
returns g c = performs _ _ _ _ _ c.write.ensures.answer c.write.ensures.state refl (λ e. refl)
