-- What the two lines of a PWM phase stand for: a magnitude and a sign.
use Rattle.std.specs.Prelude.{◌*◌, Bool, true, cond, not, ◌&&◌, ℤ, pos, neg_ℤ, ◌==◌}
use Rattle.stage.specs.Pairs.{Pair}
use Rattle.stage.specs.declared.pulse.Pulse.{Pulse}

-- the number that a pulse stands for: 128 for each step of its magnitude
abbrev pub pulse_number : Pulse → ℤ
pulse_number p = cond p.negative (neg_ℤ (pos (p.magnitude * 128))) (pos (p.magnitude * 128))

-- a magnitude of 0 has the positive sign
abbrev pub has_no_negative_zero : Pulse → Bool
has_no_negative_zero p = cond (p.magnitude == 0) (not p.negative) true

abbrev pub pulse_numbers : Pulse × Pulse → Pair
pulse_numbers p = (pulse_number p.0, pulse_number p.1)

abbrev pub have_no_negative_zero : Pulse × Pulse → Bool
have_no_negative_zero p = has_no_negative_zero p.0 && has_no_negative_zero p.1
