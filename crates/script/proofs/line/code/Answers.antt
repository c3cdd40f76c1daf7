use Rattle.std.proofs.Common.{rules}
use Rattle.script.proofs.Unread.{code_found}
use Rattle.script.proofs.line.code.Goals as goal

pub returns-in-None : goal.returns-in-None
returns-in-None c = code_found _ c.args.text.now c.fitting_number.result (search rules) c.fitting_number.ensures
