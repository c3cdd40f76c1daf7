use Rattle.std.proofs.Common.{Ok, ap}
use Rattle.replay.specs.Answers.{answer_bytes}
use Rattle.replay.proofs.boards.turn.Goals as goal

pub returns-in-Ok : goal.returns-in-Ok
returns-in-Ok g c =
    let answered = answer_bytes g.S.Stage (Ok c.in-Ok.answer) in
    (answered c.board.result.now, (Ok c.in-Ok.answer, c.in-Ok.ensures, ap answered c.board.ensures), c.put.ensures)
