use Rattle.std.proofs.Common.{rules, ◌≡◌, ℤ, pos, ◌+ℤ◌, ◌-ℤ◌, subst, arith, w32, to_z, of_z}
use Rattle.std.proofs.lemmas.Int.{ints}
use Rattle.windings.specs.declared.settings.Settings.{Settings}
use Rattle.windings.specs.Rows.{IsDriven}
use Rattle.windings.proofs.rig.Rig.show.Goals as goal

pub loop-position-preserved : goal.loop-position-preserved
loop-position-preserved g c =
    let now : ℤ = to_z w32 c.loop-position.position-bits in
    let next : ℤ = to_z w32 (of_z w32 (now +ℤ pos 1)) in
    let at : now ≡ next -ℤ pos 1 = omega (arith, ints) in
    let shows = λ (s : Settings) (p : ℤ). IsDriven s p c.step.new.self.dac c.step.new.self.pwm in
    record {
      settings = search rules;
      wires = search rules;
      spared = search rules;
      within = omega (arith, ints);
      driven = λ _. subst (λ s. shows s (next -ℤ pos 1)) (search rules) (subst (shows c.loop-position.self.settings) at c.step.ensures.driven);
    }

pub returns-clause-driven : goal.returns-clause-driven
returns-clause-driven g c =
    let at : to_z w32 c.loop-position.position-bits -ℤ pos 1 ≡ pos 255 = omega (arith, ints) in
    subst (λ (p : ℤ). IsDriven c.loop-position.self.settings p c.loop-position.self.dac c.loop-position.self.pwm) at (c.loop-position.invariant.driven (omega (arith, ints)))
