-- The size of the wave, and of a share of the power.
use Rattle.std.proofs.Common.{◌≡◌, ℕ, ◌+◌, ◌*◌, ◌/◌, ◌^◌, ◌<◌, ◌≤◌, Bool, true, false, cond, map, slice_index_or, ltb, leb, pos, neg_ℤ, nat_abs, refl, arith, leb→le}
use Rattle.std.proofs.lemmas.Nat.{mul-le, div-add-mod'}
use Rattle.std.specs.List.{range_with_len}
use Rattle.std.proofs.lemmas.Int.{ints}
use Rattle.std.proofs.lemmas.List.FromFn.{get_or-map-range_with_len}
use Rattle.wave.specs.Phases.{scaled_by_power}
use Rattle.wave.specs.Wave.{with_half_sign, half_wave}
use Rattle.wave.proofs.Every.{at}

-- the half wave as a list
pub halves : (place : ℕ) → place < 128 → slice_index_or (map half_wave (range_with_len 0 128)) place 0 ≡ half_wave place
halves place h = get_or-map-range_with_len half_wave 0 128 place place 0 h (omega arith)

-- no place of the half wave is above 32,767
pub half_bound : (place : ℕ) → place < 128 → half_wave place ≤ 32767
half_bound place h =
    leb→le (half_wave place) 32767 (at (λ k. leb (half_wave k) 32767) 128 tt place h)

-- a share of the power is at most the power
pub share : (size power : ℕ) → size ≤ 32767 → size * power / 32767 ≤ power
share size power h = omega (arith, mul-le size power 32767 power h (omega arith), div-add-mod' (size * power) 32767)

-- to multiply one more by the reciprocal and shift is to divide
pub reciprocal : (n : ℕ) → n ≤ 2 ^ 31 → (n + 1) * 1073774593 / 2 ^ 45 ≡ n / 32767
reciprocal n h = omega arith

-- a sign changes no size
pub with_half_sign_size : (place n : ℕ) → nat_abs (with_half_sign place n) ≡ n
with_half_sign_size place n = go (ltb place 128)
  where
    go : (b : Bool) → nat_abs (cond b (pos n) (neg_ℤ (pos n))) ≡ n
    go true = refl
    go false = omega (arith, ints)

-- what is scaled is the size
pub scaled_by_power_with_half_sign : (power place n : ℕ)
    → scaled_by_power power (with_half_sign place n) ≡ with_half_sign place (n * power / 32767)
scaled_by_power_with_half_sign power place n = go (ltb place 128) n
  where
    go : (b : Bool) (n : ℕ)
        → scaled_by_power power (cond b (pos n) (neg_ℤ (pos n))) ≡ cond b (pos (n * power / 32767)) (neg_ℤ (pos (n * power / 32767)))
    go true n = grind (arith, ints)
    go false n = grind (arith, ints)
