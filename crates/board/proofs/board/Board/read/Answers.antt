use Rattle.std.proofs.Common.{refl}
use Rattle.board.proofs.Owed.{performs}
use Rattle.board.proofs.board.Board.read.Goals as goal

pub returns : goal.returns
returns g c = performs _ _ _ _ _ c.read.ensures.answer c.read.ensures.state refl (λ e. refl)
