-- The phases of a motor: what its two windings are driven with at a position.
use Rattle.std.specs.Prelude.{ℕ, ◌+◌, ◌-◌, ◌*◌, ◌/◌, ◌%◌, cond, ℤ, pos, negsuc, neg_ℤ, int_lt, unsigned_abs}
use Rattle.wave.specs.declared.phases.MotorKind.{MotorKind}
use Rattle.wave.specs.declared.phases.MotorKind.TheVariants.{TwoPhase, ThreePhase}
use Rattle.wave.specs.Wave.{wave}

-- the position modulo 256, from 0 to 255, for negative positions too
abbrev pub angle : ℤ → ℕ
angle (pos n) = n % 256
angle (negsuc n) = 255 - n % 256

-- how many places phase B is ahead of phase A
abbrev pub lead : MotorKind → ℕ
lead TwoPhase = 64
lead ThreePhase = 85

-- a number times the power over 32,767, cut toward zero
abbrev pub scaled_by_power : ℕ → ℤ → ℤ
scaled_by_power power x = cond (int_lt x (pos 0)) (neg_ℤ (pos (unsigned_abs x * power / 32767))) (pos (unsigned_abs x * power / 32767))

abbrev pub phases : MotorKind → ℕ → ℤ → ℤ × ℤ
phases kind power position =
    (scaled_by_power power (wave (angle position)), scaled_by_power power (wave ((angle position + lead kind) % 256)))
