use Rattle.std.proofs.Common.{◌+◌, inl, rules}
use Rattle.travel.proofs.Follows.{TravelsFor-more, rests}
use Rattle.travel.proofs.journey.Journey.show.Goals as goal

pub returns-in_err-println-2 : goal.returns-in_err-println-2
returns-in_err-println-2 g c =
    (c.loop-cycle._cycle + 1, TravelsFor-more _ _ _ _ c.loop-cycle.invariant c.loop-cycle-test.true c.step-row.ensures.is, search rules)

pub returns-then-not-row : goal.returns-then-not-row
returns-then-not-row g c =
    (c.loop-cycle._cycle + 1, TravelsFor-more _ _ _ _ c.loop-cycle.invariant c.loop-cycle-test.true c.step-row.ensures.is, (search rules, inl (rests _ _ _ c.step-row.ensures.shown.moving c.if-not-row.true)))

pub loop-cycle-preserved : goal.loop-cycle-preserved
loop-cycle-preserved g c =
    (TravelsFor-more _ _ _ _ c.loop-cycle.invariant c.loop-cycle-test.true c.step-row.ensures.is, λ _. rests _ _ _ c.step-row.ensures.shown.moving c.if-not-row.false)
