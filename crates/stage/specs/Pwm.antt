-- What a PWM stage shows.
use Rattle.stage.specs.Levels.{levels}
use Rattle.stage.specs.Pairs.{Pairs}
use Rattle.stage.specs.Pulse.{pulse_number}
use Rattle.stage.specs.declared.levels.Levels.{Levels}
use Rattle.stage.specs.declared.pwm.Lines.{Lines}

abbrev pub pwm_pairs : Levels Lines → Pairs
pwm_pairs p = levels (λ l. pulse_number l.pulse) p.one p.two
