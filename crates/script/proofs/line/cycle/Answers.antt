use Rattle.std.proofs.Common.{arith, inl, inr}
use Rattle.script.proofs.Unread.{no_cycle, no_cycle_words}
use Rattle.script.proofs.line.cycle.Goals as goal

pub returns-in_err-inputs-in-len4 : goal.returns-in_err-inputs-in-len4
returns-in_err-inputs-in-len4 c =
    rw c.from_residual.ensures (no_cycle c.args.words.now (no_cycle_words c.args.words.now _ (inl c.in_err-inputs-in-len4.ensures) (omega arith)))

pub returns-in_err-inputs-in-len4-2 : goal.returns-in_err-inputs-in-len4-2
returns-in_err-inputs-in-len4-2 c =
    rw c.from_residual-in_err-inputs-in-len4-2.ensures (no_cycle c.args.words.now (no_cycle_words c.args.words.now _ (inr c.in_err-inputs-in-len4-2.ensures) (omega arith)))
