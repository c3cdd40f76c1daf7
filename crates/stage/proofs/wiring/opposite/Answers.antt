use Rattle.std.proofs.Common.{arith}
use Rattle.std.proofs.lemmas.Int.{to_z-of_z}
use Rattle.stage.proofs.Quantizing.{quantize_opposite, quantize_low}
use Rattle.stage.proofs.wiring.opposite.Goals as goal

pub returns-then-x-ltminus32767 : goal.returns-then-x-ltminus32767
returns-then-x-ltminus32767 c = λ step. quantize_low step c.args.x (grind (arith, to_z-of_z))

pub returns-else-x-ltminus32767 : goal.returns-else-x-ltminus32767
returns-else-x-ltminus32767 c = λ step. grind (arith, to_z-of_z, quantize_opposite step c.args.x)
