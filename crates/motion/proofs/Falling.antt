-- The sum of a falling speed: how many terms it takes, its order and its closed form.
use Rattle.std.proofs.Common.{◌≡◌, ℕ, zero, suc, ◌+◌, ◌-◌, ◌*◌, ◌/◌, ◌<◌, ◌≤◌, sym, refl, ap, ◌∙◌, le_refl, suc-mul, mul_comm, add-mul, add_comm, mul-le-mul_left, mul_assoc, mul-zero, zero-mul, mul-one, mul-add, arith}
use native.Mathlib.Nat.{zero-sub, mul-sub, lt-div-mul-add}
use Rattle.motion.specs.StoppingDistance.{falling_sum, stopping_distance}

-- a speed of 0 covers nothing
falling_sum_none : (rate n : ℕ) → falling_sum rate 0 n ≡ 0
unfolding falling_sum
falling_sum_none rate zero = refl
falling_sum_none rate (suc n) = rw (zero-sub rate) (omega (arith, falling_sum_none rate n))

-- terms past the last positive one add nothing
falling_sum_more : (rate s n k : ℕ) → s ≤ n * rate → falling_sum rate s (n + k) ≡ falling_sum rate s n
unfolding falling_sum
falling_sum_more rate s zero k h =
    let z : s ≡ 0 = omega (arith, zero-mul rate) in rw z (falling_sum_none rate (0 + k))
falling_sum_more rate s (suc n) k h =
    let e : suc n + k ≡ suc (n + k) = omega arith in
    let l : s - rate ≤ n * rate = omega (arith, suc-mul n rate) in
    rw e (ap (λ (m : ℕ). s + m) (falling_sum_more rate (s - rate) n k l))

-- any two numbers of terms that are enough give the same
falling_sum_enough : (rate s n m : ℕ) → s ≤ n * rate → s ≤ m * rate → falling_sum rate s n ≡ falling_sum rate s m
falling_sum_enough rate s n m h k =
    sym (falling_sum_more rate s n m h) ∙ ap (falling_sum rate s) (add_comm n m) ∙ falling_sum_more rate s m n k

-- the stopping distance takes enough terms
enough : (rate s : ℕ) → 0 < rate → s ≤ (s / rate + 1) * rate
enough rate s h = omega (arith, lt-div-mul-add {a = s} h, add-mul (s / rate) 1 rate)

-- the stopping distance is the sum of any n terms that are enough
pub stopping_distance_is : (rate s n : ℕ) → 0 < rate → s ≤ n * rate → stopping_distance rate s ≡ falling_sum rate s n
unfolding stopping_distance
stopping_distance_is rate s n h k = falling_sum_enough rate s (s / rate + 1) n (enough rate s h) k

-- a gate that stands has no distance to stop in
pub stopping_distance_zero : (rate : ℕ) → stopping_distance rate 0 ≡ 0
unfolding stopping_distance
stopping_distance_zero rate = falling_sum_none rate (0 / rate + 1)

-- a cycle at speed s leaves the stopping distance of the speed that it slows to
pub stopping_distance_step : (rate s : ℕ) → 0 < rate → stopping_distance rate s ≡ s + stopping_distance rate (s - rate)
unfolding falling_sum
stopping_distance_step rate s h =
    let n : ℕ = s / rate + 1 in
    let l : s ≤ n * rate = enough rate s h in
    stopping_distance_is rate s (suc n) h (omega (arith, suc-mul n rate)) ∙ ap (λ (m : ℕ). s + m) (sym (stopping_distance_is rate (s - rate) n h (omega arith)))

-- term by term, a greater speed covers no less
falling_sum_mono : (rate s t n : ℕ) → s ≤ t → falling_sum rate s n ≤ falling_sum rate t n
unfolding falling_sum
falling_sum_mono rate s t zero h = le_refl 0
falling_sum_mono rate s t (suc n) h = omega (arith, falling_sum_mono rate (s - rate) (t - rate) n (omega arith))

-- a greater speed has no smaller stopping distance
pub stopping_distance_mono : (rate s t : ℕ) → 0 < rate → s ≤ t → stopping_distance rate s ≤ stopping_distance rate t
stopping_distance_mono rate s t h l =
    let n : ℕ = t / rate + 1 in
    let k : t ≤ n * rate = enough rate t h in
    omega (arith, stopping_distance_is rate s n h (omega arith), stopping_distance_is rate t n h k, falling_sum_mono rate s t n l)

-- 0 + 1 + .. + (n - 1)
triangle : ℕ → ℕ
triangle zero = 0
triangle (suc n) = n + triangle n

-- that sum, without the sum
twice_triangle : (n : ℕ) → triangle n * 2 ≡ n * (n - 1)
unfolding triangle
twice_triangle zero = refl
twice_triangle (suc n) =
    let e : suc n - 1 ≡ n = omega arith in
    rw e (omega (arith, twice_triangle n, suc-mul n n, mul-sub n n 1, mul-one n, below n))
  where
    below : (n : ℕ) → n ≤ n * n
    below zero = omega arith
    below (suc n) = omega (arith, suc-mul n (suc n))

-- n falling terms, none below 0
falling_sum_closed : (rate s n : ℕ) → n * rate ≤ s + rate → falling_sum rate s n + rate * triangle n ≡ n * s
unfolding falling_sum triangle
falling_sum_closed rate s zero h = omega (arith, mul-zero rate, zero-mul s)
falling_sum_closed rate s (suc zero) h = omega (arith, mul-zero rate, suc-mul 0 s, zero-mul s)
falling_sum_closed rate s (suc (suc n)) h =
    let l : suc n * rate ≤ s = omega (arith, suc-mul (suc n) rate) in
    let k : rate ≤ s = omega (arith, suc-mul n rate) in
    omega (
      arith,
      falling_sum_closed rate (s - rate) (suc n) (omega arith),
      mul-sub (suc n) s rate,
      mul-le-mul_left (suc n) k,
      mul-add rate (suc n) (n + triangle n),
      mul_comm rate (suc n),
      suc-mul (suc n) s,
    )

-- the closed form that is computed, of a speed of q times the rate and r
pub stopping_distance_closed : (rate s q r : ℕ) → 0 < rate → s ≡ q * rate + r → r < rate → (q + 1) * (s + r) ≡ stopping_distance rate s * 2
stopping_distance_closed rate s q r h e l =
    let n = q + 1 in
    let m : n - 1 ≡ q = omega arith in
    let p = add-mul q 1 rate in
    let k : n * rate ≤ s + rate = omega arith in
    omega (
      arith,
      falling_sum_closed rate s n k,
      stopping_distance_is rate s n h (omega arith),
      mul_assoc rate (triangle n) 2,
      ap (λ (x : ℕ). rate * x) (twice_triangle n ∙ ap (λ (x : ℕ). n * x) m),
      mul-add n s r,
      ap (λ (x : ℕ). n * x) e ∙ mul-add n (q * rate) r,
      mul_assoc n q rate,
      mul_comm (n * q) rate,
    )
