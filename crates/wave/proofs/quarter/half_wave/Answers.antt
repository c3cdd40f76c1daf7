use Rattle.wave.proofs.Waves.{halves}
use Rattle.wave.proofs.quarter.half_wave.Goals as goal

pub returns : goal.returns
returns c = halves c.args.place c.requires
