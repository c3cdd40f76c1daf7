-- The facts of the quarter wave, each by one computed test.
use Rattle.std.proofs.Common.{◌≡◌, ℕ, ◌+◌, ◌-◌, ◌*◌, ◌<◌, ltb, get_or, arith, ltb→lt}
use Rattle.wave.specs.Quarter.{quarter, DifferByAtMost, IsRising, IsCircular, ObeysSumRule, IsSine}
use Rattle.wave.proofs.Every.{at, nearb, near}

rising : IsRising 64 quarter
rising k h =
    ltb→lt (get_or quarter k 0) (get_or quarter (k + 1) 0)
    (at (λ k. ltb (get_or quarter k 0) (get_or quarter (k + 1) 0)) 64 tt k h)

circular : IsCircular 64 quarter
circular k h =
    let squares = λ (k : ℕ). get_or quarter k 0 * get_or quarter k 0 + get_or quarter (64 - k) 0 * get_or quarter (64 - k) 0 in
    near 46340 (squares k) 1073676289 (at (λ k. nearb 46340 (squares k) 1073676289) 65 tt k (omega arith))

-- the sum rule at k + 1, for each k below 63
even_next : (k : ℕ) → k < 63
    → DifferByAtMost 98301 (32767 * (get_or quarter (k + 2) 0 + get_or quarter k 0)) (2 * get_or quarter 63 0 * get_or quarter (k + 1) 0)
even_next k h =
    let sides = λ (k : ℕ). 32767 * (get_or quarter (k + 2) 0 + get_or quarter k 0) in
    let middle = λ (k : ℕ). 2 * get_or quarter 63 0 * get_or quarter (k + 1) 0 in
    near 98301 (sides k) (middle k) (at (λ k. nearb 98301 (sides k) (middle k)) 63 tt k h)

even : ObeysSumRule 64 quarter
even k low h =
    let at_one : (k - 1) + 1 ≡ k = omega arith in
    let at_two : (k - 1) + 2 ≡ k + 1 = omega arith in
    let n = even_next (k - 1) (omega arith) in
    rw at_one at (rw at_two at n)

pub sine : IsSine 64 quarter
sine = record { rising = rising; circular = circular; even = even }
