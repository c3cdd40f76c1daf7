use Rattle.std.proofs.Common.{◌≡◌, ℕ, suc, ◌-◌, ◌*◌, ◌^◌, ◌<◌, ◌≤◌, ap, ◌∙◌, pow-suc, arith}
use Rattle.std.proofs.lemmas.Grind.{common_steps}
use Rattle.motion.proofs.search.Search.halve.Goals as goal

-- a span of two speeds or more has a question left, which halves what can be left
halving : (asked width : ℕ) → 1 < width → asked ≤ 31 → width ≤ 2 ^ (31 - asked) → 2 ^ (31 - asked) ≡ 2 ^ (30 - asked) * 2
halving asked width w h room =
    let l : asked < 31 = grind (arith, common_steps) in
    let e : 31 - asked ≡ suc (30 - asked) = omega arith in
    ap (λ (k : ℕ). 2 ^ k) e ∙ pow-suc 2 (30 - asked)

pub ask-requires-clause-halved : goal.ask-requires-clause-halved
ask-requires-clause-halved c =
    let h = halving c.loop-self.self.tester.asked c.width.result (omega arith) (omega arith) (omega arith) in
    (omega (arith, h), omega (arith, h))
