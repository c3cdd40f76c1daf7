use Rattle.std.proofs.Common.{◌≡◌, ℕ, zero, suc, ◌+◌, ◌-◌, ◌*◌, ◌<◌, ◌≤◌, ap, ◌∙◌, zero-mul, suc-mul, arith}
use Rattle.motion.specs.StoppingDistance.{stopping_distance}
use Rattle.motion.proofs.Falling.{stopping_distance_zero, stopping_distance_step}
use Rattle.motion.proofs.tester.Tester.guess.Goals as goal

-- where whole rates cover more than a distance there is one, and without it they cover their sum less
one_less : (rate distance terms covered : ℕ) → 0 < rate → covered ≡ stopping_distance rate (terms * rate) → distance < covered
    → (1 ≤ terms) × (terms * rate ≡ (terms - 1) * rate + rate) × (covered ≡ terms * rate + stopping_distance rate ((terms - 1) * rate))
one_less rate distance zero covered p e h =
    absurd (omega (arith, ap (stopping_distance rate) (zero-mul rate), stopping_distance_zero rate))
one_less rate distance (suc n) covered p e h =
    let m : suc n - 1 ≡ n = omega arith in
    let below : suc n * rate - rate ≡ n * rate = omega (arith, suc-mul n rate) in
    rw m (omega arith, suc-mul n rate, e ∙ stopping_distance_step rate (suc n * rate) p ∙ ap (λ (s : ℕ). suc n * rate + stopping_distance rate s) below)

-- a turn takes one rate off
turn : (c : goal.After-from-covered)
    → (1 ≤ c.loop-turn.terms)
    × (c.loop-turn.terms * c.self.inside.rate.size ≡ (c.loop-turn.terms - 1) * c.self.inside.rate.size + c.self.inside.rate.size)
    × (c.loop-turn.covered ≡ c.loop-turn.terms * c.self.inside.rate.size + stopping_distance c.self.inside.rate.size ((c.loop-turn.terms - 1) * c.self.inside.rate.size))
turn c =
    one_less c.self.inside.rate.size c.self.inside.distance c.loop-turn.terms c.loop-turn.covered (omega arith) (omega arith) (omega arith)

pub overflow_sub-covered : goal.overflow_sub-covered
overflow_sub-covered c = omega (arith, turn c)

pub overflow_sub-terms : goal.overflow_sub-terms
overflow_sub-terms c = omega (arith, turn c)

pub loop-turn-preserved : goal.loop-turn-preserved
loop-turn-preserved c = record { terms = omega arith; speed = omega (arith, turn c); covered = omega (arith, turn c) }
