use Rattle.std.proofs.Common.{refl}
use Rattle.board.specs.Acts.{state_of}
use Rattle.board.proofs.Owed.{performs}
use Rattle.board.proofs.Collecting.{accounts}
use Rattle.board.proofs.Marks.{keeps_found}
use Rattle.board.proofs.board.Board.collect.Goals as goal

pub returns-clause-performs : goal.returns-clause-performs
returns-clause-performs g c = performs _ _ _ _ _ c.collect.ensures.answer c.collect.ensures.state refl (λ e. refl)

pub returns-clause-each : goal.returns-clause-each
returns-clause-each g c = accounts (state_of c.args.self.now.table) _ _ c.collect.result _ c.collect.ensures.answer c.collect.ensures.lists

pub returns-clause-since : goal.returns-clause-since
returns-clause-since g c = keeps_found g.S.Stage c.args.self.now
