use Rattle.std.proofs.Common.{◌≡◌, ℕ, ◌<◌, ◌⊎◌, pos, ◌≤ℤ◌, ◌<ℤ◌, nat_abs, ap, ◌∙◌, inl, inr, arith, w32}
use Rattle.std.proofs.lemmas.Int.{ints, to_z-of_z}
use Rattle.motion.specs.Course.{next_speed}
use Rattle.motion.proofs.Velocities.{trapezoid_against, trapezoid_forward}
use Rattle.motion.proofs.rate.Rate.trapezoid_ahead.Goals as goal

pub returns-then-v-lt0-clause-is : goal.returns-then-v-lt0-clause-is
returns-then-v-lt0-clause-is c =
    let ahead : (c.args.v <ℤ pos 0) ⊎ (c.args.distance ≡ 0) =
    elim c.then-v-lt0.either [ inl h ↦ inl (grind (arith, ints)) | inr h ↦ inr h.1 ]
    in
    rw (to_z-of_z w32 c.toward.result (record { sfits = c.toward.type_inv }), trapezoid_against _ _ _ _ ahead)
    (rw (to_z-of_z w32 c.args.v c.ranges.v) at c.toward.ensures.is)

pub returns-clause-is : goal.returns-clause-is
returns-clause-is c =
    let on : pos 0 ≤ℤ c.args.v = grind (arith, ints) in
    let left : 0 < c.args.distance = grind (arith, ints) in
    let is : c.next_speed-speed.result.0 ≡ next_speed (nat_abs c.args.v) c.args.top c.args.self.size c.args.distance =
    c.next_speed-speed.ensures.is ∙ ap (λ (u : ℕ). next_speed u c.args.top c.args.self.size c.args.distance) (omega (arith, ints))
    in
    rw (trapezoid_forward c.args.v c.args.top c.args.self.size c.args.distance on left) (omega (arith, ints))
