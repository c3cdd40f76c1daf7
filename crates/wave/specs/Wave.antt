-- The wave of 256 places: the quarter up, the quarter down, then the same negated.
use Rattle.std.specs.Prelude.{ℕ, ◌%◌, ◌-◌, cond, ℤ, pos, neg_ℤ, nat_lt, slice_index}
use Rattle.wave.specs.Quarter.{quarter}

-- half a wave, of 128 places: up and down
abbrev pub half_wave : ℕ → ℕ
half_wave place = cond (nat_lt place 64) (slice_index quarter place) (slice_index quarter (128 - place))

-- a size with the sign of the half that the place lies in
abbrev pub with_half_sign : ℕ → ℕ → ℤ
with_half_sign place size = cond (nat_lt place 128) (pos size) (neg_ℤ (pos size))

unfoldable pub wave : ℕ → ℤ
wave place = with_half_sign place (half_wave (place % 128))
