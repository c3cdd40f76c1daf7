use Rattle.std.proofs.Common.{rules}
use Rattle.script.proofs.NumberLemmas.{fitted}
use Rattle.script.proofs.line.fitting_number.Goals as goal

pub returns : goal.returns
returns g c =
    rw c.ok.ensures.value (fitted g.N.TryFrom.try_from_gives c.args.text.now c.in_ok-number.field-0 c.try_from.result (search rules) (search rules))
