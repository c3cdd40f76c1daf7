-- The worked figures hold, by computation.
use mathlib.Core.Path.{refl}
use Rattle.wave.specs.Wave.{wave}
use Rattle.stage.specs.Quantize.{quantize}
use Rattle.motion.specs.StoppingDistance.{falling_sum, stopping_distance}
use Rattle.motion.specs.Speed.{largest_speed}
use Rattle.motion.specs.Course.{toward, must_decelerate, next_speed, with_sign_of, trapezoid, cruise}
use Rattle.motion.specs.Course.{wrap, is_outside, next_target, is_crossing_end, microsteps, distance_to, next_actual}
use Rattle.board.specs.Commands.{command_of}
use Rattle.figures.specs.Figures.{AllHold, figures}

pub worked : AllHold figures
unfolding wave quantize falling_sum stopping_distance largest_speed toward must_decelerate next_speed with_sign_of trapezoid cruise wrap is_outside next_target is_crossing_end
    microsteps distance_to next_actual command_of
worked =
    (refl, (refl, (refl, (refl, (refl, (refl, (refl, ((λ p. refl), ((λ p. refl), ((λ p. refl), (refl, (refl, (refl, (refl, tt))))))))))))))
