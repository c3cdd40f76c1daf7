use Rattle.std.proofs.Common.{arith, ◌∙◌, ℕ, List, [], get_or, ap, subst, Option}
use Rattle.std.specs.Borrow.{Bor}
use Rattle.std.specs.Result.{result_ok}
use Rattle.std.proofs.lemmas.Result.{err_from_is_err_and}
use Rattle.board.specs.declared.command.Command.{Command}
use Rattle.script.specs.Mnemonics.{NamesCommand}
use Rattle.script.proofs.Unread.{says_refused}
use Rattle.script.proofs.line.LineTryFromRefSliceRefStr.try_from.Goals as goal

pub returns-in_err-read-in_default-verb : goal.returns-in_err-read-in_default-verb
returns-in_err-read-in_default-verb c =
    let p = err_from_is_err_and c.from_residual-in_err-read-in_default-verb.result c.from_residual-in_err-read-in_default-verb.ensures.1 in
    let named = c.ok_or-in_default-verb.ensures.ok_part ∙ ap result_ok c.in_ok-command-in_default-verb.was in
    let none : Bor (List ℕ) = record { ref_ptr = (0, 0); now = [] } in
    let name = subst (λ (o : Option Command). NamesCommand (get_or c.args.words.now 0 none).now o) named c.command_named.ensures in
    rw (p.1, p.2) (says_refused c.args.words.now none c.in_ok-command-in_default-verb.command _ (omega arith) name c.in_err-read-in_default-verb.ensures)
