use Rattle.script.proofs.NumberLemmas.{signed_fitted}
use Rattle.script.proofs.line.inputs.Goals as goal

pub returns-in_err-count : goal.returns-in_err-count
returns-in_err-count c =
    rw c.from_residual.ensures (λ i w. signed_fitted _ c.args.number.now i.count c.in_err-count.ensures w.count_fits w.count_is)
