-- The quarter wave: entry k, from 0 to 64, is the whole number nearest 32,767 × sin (k × 90° / 64).
use Rattle.std.specs.Prelude.{ℕ, ◌+◌, ◌-◌, ◌*◌, ◌<◌, ◌≤◌, List, [], ◌∷◌, slice_index}

abbrev pub quarter : List ℕ
quarter =
    0 ∷ 804 ∷ 1608 ∷ 2410 ∷ 3212 ∷ 4011 ∷ 4808 ∷ 5602 ∷ 6393 ∷ 7179 ∷ 7962 ∷ 8739 ∷ 9512 ∷ 10278 ∷ 11039 ∷ 11793 ∷
    12539 ∷ 13279 ∷ 14010 ∷ 14732 ∷ 15446 ∷ 16151 ∷ 16846 ∷ 17530 ∷ 18204 ∷ 18868 ∷ 19519 ∷ 20159 ∷ 20787 ∷ 21403 ∷
    22005 ∷ 22594 ∷ 23170 ∷ 23731 ∷ 24279 ∷ 24811 ∷ 25329 ∷ 25832 ∷ 26319 ∷ 26790 ∷ 27245 ∷ 27683 ∷ 28105 ∷ 28510 ∷
    28898 ∷ 29268 ∷ 29621 ∷ 29956 ∷ 30273 ∷ 30571 ∷ 30852 ∷ 31113 ∷ 31356 ∷ 31580 ∷ 31785 ∷ 31971 ∷ 32137 ∷ 32285 ∷
    32412 ∷ 32521 ∷ 32609 ∷ 32678 ∷ 32728 ∷ 32757 ∷ 32767 ∷ []

-- a and b differ by at most d
pub record DifferByAtMost (d a b : ℕ) : Type 0 where
  pub above : a ≤ b + d
  pub below : b ≤ a + d

-- a table of n + 1 entries rises strictly
abbrev pub IsRising : ℕ → List ℕ → Type 0
IsRising n t = (k : ℕ) → k < n → slice_index t k < slice_index t (k + 1)

-- sine and cosine: the squares of an entry and of its mirror make up the square of 32,767
abbrev pub IsCircular : ℕ → List ℕ → Type 0
IsCircular n t =
    (k : ℕ) → k ≤ n
    → DifferByAtMost 46340 (slice_index t k * slice_index t k + slice_index t (n - k) * slice_index t (n - k)) (32767 * 32767)

-- the sum rule: the neighbours of an entry make up twice the entry times the cosine of a step
abbrev pub ObeysSumRule : ℕ → List ℕ → Type 0
ObeysSumRule n t =
    (k : ℕ) → 1 ≤ k → k < n
    → DifferByAtMost 98301 (32767 * (slice_index t (k + 1) + slice_index t (k - 1))) (2 * slice_index t (n - 1) * slice_index t k)

-- the three together
pub record IsSine (n : ℕ) (t : List ℕ) : Type 0 where
  pub rising : IsRising n t
  pub circular : IsCircular n t
  pub even : ObeysSumRule n t
