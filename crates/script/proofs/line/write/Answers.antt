use Rattle.script.proofs.Unread.{no_write}
use Rattle.script.proofs.line.write.Goals as goal

pub returns-in_err-only_word : goal.returns-in_err-only_word
returns-in_err-only_word c = rw c.from_residual.ensures (no_write c.args.words.now c.in_err-only_word.ensures)
