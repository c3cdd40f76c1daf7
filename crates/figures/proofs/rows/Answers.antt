use mathlib.Core.Path.{refl}
use Rattle.figures.proofs.Worked.{worked}
use Rattle.figures.proofs.rows.Goals as goal

pub returns : goal.returns
returns c = record { hold = worked; count = refl }
