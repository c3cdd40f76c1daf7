use Rattle.std.proofs.Common.{◌≡◌, Err, refl, ap, ◌∙◌}
use Rattle.std.proofs.lemmas.Result.{err_from_is_err_and}
use Rattle.board.specs.Own.{answer_refused}
use Rattle.replay.proofs.play.play.Goals as goal

-- a collect that is refused
pub returns-in_err-collect-in-Collect : goal.returns-in_err-collect-in-Collect
returns-in_err-collect-in-Collect g c =
    let refused = c.in_err-collect-in-Collect.field-0.0 in
    let answered = c.from_residual-in_err-collect-in-Collect.result in
    let r = err_from_is_err_and answered c.from_residual-in_err-collect-in-Collect.ensures.1 in
    let is : answered ≡ Err refused = r.1 ∙ ap Err r.2 in
    let collected = c.in_err-collect-in-Collect.ensures in
    rw c.in-Collect.is ((answer_refused refused, is, collected.performs), refl, collected.lists)
