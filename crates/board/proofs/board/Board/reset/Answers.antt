use Rattle.std.proofs.Common.{refl}
use Rattle.stage.specs.Pairs.{zero_pairs}
use Rattle.board.proofs.Owed.{performs, shown_both}
use Rattle.board.proofs.board.Board.reset.Goals as goal

pub returns : goal.returns
returns g c =
    let pairs = shown_both g.S.Stage.STEP (g.S.Stage.pairs c.args.self.now.stage) _ _ zero_pairs _ _ _ _ c.show.ensures c.show-2.ensures refl refl refl refl in
    performs _ _ _ _ _ refl c.reset.ensures.state pairs (λ e. cc)
