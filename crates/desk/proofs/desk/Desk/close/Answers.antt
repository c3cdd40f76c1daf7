use Rattle.std.proofs.Common.{◌≡◌, ◌-◌, subst, rules}
use Rattle.board.specs.Acts.{act_close}
use Rattle.board.specs.Own.{answer_done}
use Rattle.board.specs.Runs.{Performs}
use Rattle.desk.proofs.desk.Desk.close.Goals as goal

pub returns : goal.returns
returns g c =
    let gate : c.in-Some.slip.axis ≡ c.args.gate - 1 = search rules in
    (search rules, subst (λ k. Performs g.S.Stage (act_close k c.args.word) answer_done c.args.self.now.board c.close_out.new.board) gate c.close_out.ensures)
