use Rattle.std.proofs.Common.{◌≡◌, ◌≤◌, length, take, refl, arith, inr, length-set}
use Rattle.std.proofs.lemmas.Result.{err_from_is_err_and}
use Rattle.std.proofs.lemmas.List.{take_all}
use Rattle.board.specs.Own.{answer_done}
use Rattle.script.proofs.Sends.{through_more, stopped_at}
use Rattle.script.proofs.packet.fetch.Goals as goal

pub returns-in_err-word : goal.returns-in_err-word
returns-in_err-word g c =
    let p = err_from_is_err_and c.from_residual-in_err-word.result c.from_residual-in_err-word.ensures.1 in
    let read = take c.loop-word.word-index c.loop-word.word-items in
    let stop = stopped_at g.S.Stage c.loop-word.word-index g.row.N read c.in_err-word.field-0.0 _ _ _ (omega arith) c.loop-word.invariant.1 c.in_err-word.ensures in
    rw (p.1, p.2) (inr (c.command.new.self.board, answer_done, refl, c.in_ok-command.ensures, stop))

pub loop-word-preserved : goal.loop-word-preserved
loop-word-preserved g c = (rw length-set c.loop-word.invariant.0, through_more g.S.Stage c.loop-word.word-items c.loop-word.word-index _ _ _ _ (omega arith) c.loop-word.invariant.1 c.in_ok-word.ensures)

pub returns : goal.returns
returns g c =
    let all : c.loop-word.word-index ≡ g.row.N = omega arith in
    let whole : length c.loop-word.word-items ≤ c.loop-word.word-index = omega arith in
    let read = rw (take_all c.loop-word.word-index c.loop-word.word-items whole) at c.loop-word.invariant.1 in
    (c.loop-word.invariant.0, (c.command.new.self.board, c.in_ok-command.ensures, rw (all) at read))
