use Rattle.std.proofs.Common.{rules, None}
use Rattle.script.specs.Lines.{WritesUnsigned}
use Rattle.script.proofs.NumberLemmas.{unsigned_fitted}
use Rattle.script.proofs.Unread.{no_event, none_of_one}
use Rattle.script.proofs.line.event.Goals as goal

pub returns-in_err-fitting_number : goal.returns-in_err-fitting_number
returns-in_err-fitting_number c =
    let none = unsigned_fitted _ 64 c.in_ok-only_one.field-0.now None c.in_err-fitting_number.ensures in
    rw c.from_residual-in_err-fitting_number.ensures (no_event c.args.words.now (λ n. none_of_one (λ t. WritesUnsigned 64 t n) c.args.words.now c.in_ok-only_one.field-0 (search rules) (none n)))
