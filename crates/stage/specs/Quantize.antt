-- What a stage keeps of a number.
use Rattle.std.specs.Prelude.{◌≡◌, ℕ, suc, ◌*◌, ◌/◌, ◌%◌, ◌≤◌, min, true, false, ℤ, pos, negsuc, neg_ℤ, int_lt, unsigned_abs}

-- the size of a number: taken to the nearest end, then down to a multiple of the step
abbrev pub quantized_size : ℕ → ℕ → ℕ
quantized_size step m = min m 32767 / step * step

-- a number, taken to the nearest of the ends −32,767 and 32,767 and then rounded toward zero to a multiple of the step
unfoldable pub quantize : ℕ → ℤ → ℤ
quantize step (pos m) = pos (quantized_size step m)
quantize step (negsuc m) = neg_ℤ (pos (quantized_size step (suc m)))

-- r is what is left of x: the largest multiple of the step that lies within x and the end on its side
pub record IsQuantized (step : ℕ) (x r : ℤ) : Type 0 where
  pub multiple : unsigned_abs r % step ≡ 0
  pub within : unsigned_abs r ≤ min (unsigned_abs x) 32767
  pub most : (n : ℕ) → n * step ≤ min (unsigned_abs x) 32767 → n * step ≤ unsigned_abs r
  pub positive : int_lt x (pos 0) ≡ false → r ≡ pos (unsigned_abs r)
  pub negative : int_lt x (pos 0) ≡ true → r ≡ neg_ℤ (pos (unsigned_abs r))
