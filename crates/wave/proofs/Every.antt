-- A test that passes at each number below n, computed once, holds at each of them.
use Rattle.std.proofs.Common.{◌≡◌, ℕ, zero, suc, ◌+◌, ◌<◌, Bool, true, false, ◌&&◌, T, leb, ◌⊎◌, sym, subst, inl, inr, not-suc-le-zero, arith, leb→le}
use Rattle.wave.specs.Quarter.{DifferByAtMost}

abbrev pub every : (ℕ → Bool) → ℕ → Bool
every f zero = true
every f (suc n) = f n && every f n

left : (a b : Bool) → T (a && b) → T a
left true b t = tt
left false b t = t

right : (a b : Bool) → T (a && b) → T b
right true b t = t
right false b t = absurd t

last : (k n : ℕ) → k < suc n → (k ≡ n) ⊎ (k < n)
last k n h = search arith

pub at : (f : ℕ → Bool) (n : ℕ) → T (every f n) → (k : ℕ) → k < n → T (f k)
at f zero t k h = absurd (not-suc-le-zero h)
at f (suc n) t k h =
    elim (last k n h) [
      | inl e ↦ subst (λ (m : ℕ). T (f m)) (sym e) (left (f n) (every f n) t)
      | inr l ↦ at f n (right (f n) (every f n) t) k l
    ]

abbrev pub nearb : ℕ → ℕ → ℕ → Bool
nearb d a b = leb a (b + d) && leb b (a + d)

pub near : (d a b : ℕ) → T (nearb d a b) → DifferByAtMost d a b
near d a b t =
    record {
      above = leb→le a (b + d) (left (leb a (b + d)) (leb b (a + d)) t);
      below = leb→le b (a + d) (right (leb a (b + d)) (leb b (a + d)) t);
    }
