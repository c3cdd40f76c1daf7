-- What is kept of a number, as it is computed: taken to the nearest end, divided by the step and multiplied again.
use Rattle.std.proofs.Common.{◌≡◌, ℕ, zero, suc, ◌*◌, ◌/◌, ◌<◌, ◌≤◌, min, ℤ, pos, negsuc, ◌*ℤ◌, neg_ℤ, nat_abs, refl, int_div, SFits, w32, to_z, of_z, ◌∙◌, ◌^◌, ap, zero-mul, mul-zero, arith}
use native.Mathlib.Nat.{div-mul-le_self}
use Rattle.std.specs.Int.{int_min, int_max}
use Rattle.std.proofs.lemmas.Int.{ints, clamps, to_z-of_z, quot_fits}
use Rattle.stage.specs.Quantize.{quantize}
use Rattle.stage.proofs.Quantizing.{nat_abs_quantize}

-- a number taken to the nearest end
abbrev ended : ℤ → ℤ
ended x = int_max (negsuc 32766) (int_min x (pos 32767))

ended_up : (m : ℕ) → ended (pos m) ≡ pos (min m 32767)
ended_up m = omega (arith, ints, clamps)

ended_down : (m : ℕ) → ended (negsuc m) ≡ negsuc (min m 32766)
ended_down m = omega (arith, ints, clamps)

-- a step of 0 keeps nothing
pub none : (x : ℤ) → quantize 0 x ≡ pos 0
unfolding quantize
none (pos m) = ap pos (mul-zero (min m 32767 / 0))
none (negsuc m) = ap (λ n. neg_ℤ (pos n)) (mul-zero (min (suc m) 32767 / 0))

back_mul : (n step : ℕ) → neg_ℤ (pos n) *ℤ pos step ≡ neg_ℤ (pos (n * step))
back_mul zero step = rw (zero-mul step)
back_mul (suc n) step = refl

pub whole : (step : ℕ) (x : ℤ) → int_div (ended x) (pos step) *ℤ pos step ≡ quantize step x
unfolding quantize
whole step (pos m) = rw (ended_up m)
whole step (negsuc m) =
    let e : suc (min m 32766) ≡ min (suc m) 32767 = omega arith in
    rw (ended_down m) (back_mul (suc (min m 32766) / step) step ∙ ap (λ n. neg_ℤ (pos (n / step * step))) e)

pub quantize_bound : (step : ℕ) (x : ℤ) → nat_abs (quantize step x) ≤ 32767
quantize_bound step x =
    rw (nat_abs_quantize step x) (omega (arith, div-mul-le_self (min (nat_abs x) 32767) step))

-- a number that is small enough fits 32 bits
fits : (z : ℤ) → nat_abs z < 2 ^ 31 → SFits w32 z
fits (pos n) h = record { sfits = omega arith }
fits (negsuc n) h = record { sfits = omega arith }

module _ (step : ℕ) (x s z : ℤ) (e : s ≡ pos step) (some : 0 < step) (l : step < 256) (f : SFits w32 x)
    (v : z ≡ int_max (negsuc 32766) (int_min (to_z w32 (of_z w32 x)) (pos 32767)))
  where
    ends : z ≡ ended x
    ends = v ∙ ap ended (to_z-of_z w32 x f)

    small : nat_abs z ≤ 32767
    small = omega (arith, ints, clamps, ends)

    pub computed : to_z w32 (of_z w32 (to_z w32 (of_z w32 (int_div (to_z w32 (of_z w32 z)) (to_z w32 (of_z w32 s)))) *ℤ to_z w32 (of_z w32 s))) ≡ quantize step x
    computed =
        let a = to_z-of_z w32 z (fits z (omega (arith, small))) in
        let b = to_z-of_z w32 (pos step) (fits (pos step) (omega arith)) in
        let q = to_z-of_z w32 (int_div z (pos step)) (quot_fits w32 z (pos step) (fits z (omega (arith, small))) (omega (arith, ints))) in
        let r = to_z-of_z w32 (quantize step x) (fits (quantize step x) (omega (arith, quantize_bound step x))) in
        simp (e, b, a, q) (simp (ends, whole step x) r)
