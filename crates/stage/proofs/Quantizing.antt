-- The laws of what a stage keeps of a number.
use Rattle.std.proofs.Common.{◌≡◌, ℕ, zero, suc, ◌+◌, ◌*◌, ◌/◌, ◌%◌, ◌<◌, ◌≤◌, min, true, false, ℤ, pos, negsuc, neg_ℤ, nat_abs, sym, refl, ap, ◌∙◌, zero-mul, arith, ltb-true}
use native.Mathlib.Nat.{mul-mod_left, zero-div}
use lib.IntN.{neg_ℤ-neg_ℤ}
use lib.Signed.{lt_z}
use Rattle.std.proofs.lemmas.Int.{ints}
use Rattle.std.proofs.lemmas.Nat.{div-add-mod', mod_below, le-div, mul-le}
use Rattle.stage.specs.Quantize.{quantize, quantized_size, IsQuantized}

-- by the sign and the size of the number
pub quantize_negative : (step : ℕ) (x : ℤ) → lt_z x (pos 0) ≡ true → quantize step x ≡ neg_ℤ (pos (quantized_size step (nat_abs x)))
unfolding quantize
quantize_negative step (pos m) h = let no : ⊥ = omega (arith, ltb-true m 0 h) in absurd no
quantize_negative step (negsuc m) h = refl

pub quantize_positive : (step : ℕ) (x : ℤ) → lt_z x (pos 0) ≡ false → quantize step x ≡ pos (quantized_size step (nat_abs x))
unfolding quantize
quantize_positive step (pos m) h = refl
quantize_positive step (negsuc m) h = cc

-- the size of what is quantized
pub nat_abs_quantize : (step : ℕ) (x : ℤ) → nat_abs (quantize step x) ≡ quantized_size step (nat_abs x)
unfolding quantize
nat_abs_quantize step (pos m) = refl
nat_abs_quantize step (negsuc m) = omega (arith, ints)

-- a size loses less than a step
pub quantized_size_near : (step m : ℕ) → 1 ≤ step → (quantized_size step m ≤ min m 32767) × (min m 32767 < quantized_size step m + step)
quantized_size_near step m low =
    let d = div-add-mod' (min m 32767) step in
    let r = mod_below (min m 32767) step low in
    (omega arith, omega arith)

-- what is quantized is what a stage has to keep
pub is_quantized : (step : ℕ) (x r : ℤ) → r ≡ quantize step x → 1 ≤ step → IsQuantized step x r
is_quantized step x r e low =
    let size = ap nat_abs e ∙ nat_abs_quantize step x in
    let end = min (nat_abs x) 32767 in
    record {
      multiple = ap (λ n. n % step) size ∙ mul-mod_left (end / step) step;
      within = omega (arith, quantized_size_near step (nat_abs x) low);
      most = λ n h.
          let k = le-div n end step low h in
          omega (arith, mul-le n step (end / step) step k (omega arith));
      positive = λ h. e ∙ (quantize_positive step x h ∙ ap pos (sym size));
      negative = λ h. e ∙ (quantize_negative step x h ∙ ap (λ n. neg_ℤ (pos n)) (sym size));
    }

-- nothing is left of nothing
pub quantize_zero : (step : ℕ) → quantize step (pos 0) ≡ pos 0
unfolding quantize
quantize_zero step = ap pos (rw (zero-div, zero-mul))

-- to quantize the opposite is to take the opposite of what is quantized
pub quantize_opposite : (step : ℕ) (x : ℤ) → quantize step (neg_ℤ x) ≡ neg_ℤ (quantize step x)
unfolding quantize
quantize_opposite step (pos zero) = rw quantize_zero
quantize_opposite step (pos (suc m)) = refl
quantize_opposite step (negsuc m) = sym (neg_ℤ-neg_ℤ (pos (quantized_size step (suc m))))

-- below the lower end all numbers are quantized alike
pub quantize_low : (step : ℕ) (x : ℤ) → lt_z x (negsuc 32766) ≡ true → quantize step (pos 32767) ≡ neg_ℤ (quantize step x)
unfolding quantize
quantize_low step (pos m) h = cc
quantize_low step (negsuc m) h =
    let far : min (suc m) 32767 ≡ 32767 = omega (arith, ltb-true 32766 m h) in
    ap (λ n. pos (n / step * step)) (sym far) ∙ sym (neg_ℤ-neg_ℤ (pos (quantized_size step (suc m))))
