use Rattle.std.proofs.Common.{rules}
use Rattle.script.specs.Lines.{IsCode}
use Rattle.script.proofs.Unread.{no_command, none_of_one}
use Rattle.script.proofs.line.command.Goals as goal

pub returns-in_err-code : goal.returns-in_err-code
returns-in_err-code c =
    rw c.from_residual-in_err-code.ensures (no_command c.args.words.now (λ n. none_of_one (λ t. IsCode t n) c.args.words.now c.in_ok-only_one.field-0 (search rules) (c.in_err-code.ensures n)))
