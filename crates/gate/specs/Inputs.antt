-- What a cycle brings to one gate.
use Rattle.std.specs.Prelude.{pos, false}
use Rattle.gate.specs.declared.inputs.Inputs.{Inputs}

-- nothing is counted, and no switch is active
abbrev pub still_inputs : Inputs
still_inputs = record { count = pos 0; positive = false; negative = false; home = false }
