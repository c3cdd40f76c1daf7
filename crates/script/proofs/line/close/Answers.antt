use Rattle.std.proofs.Common.{inl, inr}
use Rattle.script.proofs.Unread.{no_close, no_close_words}
use Rattle.script.proofs.line.close.Goals as goal

pub returns-in_err-gate-in-len2 : goal.returns-in_err-gate-in-len2
returns-in_err-gate-in-len2 c =
    rw c.from_residual.ensures (no_close c.args.words.now (no_close_words c.args.words.now _ (inl c.in_err-gate-in-len2.ensures)))

pub returns-in_err-word-in-len2 : goal.returns-in_err-word-in-len2
returns-in_err-word-in-len2 c =
    rw c.from_residual-in_err-word-in-len2.ensures (no_close c.args.words.now (no_close_words c.args.words.now _ (inr c.in_err-word-in-len2.ensures)))
