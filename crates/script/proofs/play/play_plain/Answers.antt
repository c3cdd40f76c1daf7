use Rattle.std.proofs.lemmas.Result.{err_from_is_err_and}
use Rattle.script.proofs.play.play_plain.Goals as goal

pub returns-in_err-word-in-Status : goal.returns-in_err-word-in-Status
returns-in_err-word-in-Status g c =
    let p = err_from_is_err_and c.from_residual.result c.from_residual.ensures.1 in
    rw (c.in-Status.is, p.1, p.2) (c.from-code.result, rw c.in-Status.is at c.from-code.ensures, c.in_err-word-in-Status.ensures)

pub returns-in_err-high-in-Ask : goal.returns-in_err-high-in-Ask
returns-in_err-high-in-Ask g c =
    let p = err_from_is_err_and c.from_residual-in_err-high-in-Ask.result c.from_residual-in_err-high-in-Ask.ensures.1 in
    rw (c.in-Ask.is, p.1, p.2) (c.from-code.result, rw c.in-Ask.is at c.from-code.ensures, c.in_err-high-in-Ask.ensures)
