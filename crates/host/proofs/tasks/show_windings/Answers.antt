use Rattle.std.proofs.Common.{◌≡◌, ◌∙◌, pos, subst}
use Rattle.windings.specs.declared.settings.Settings.{Settings}
use Rattle.windings.specs.Rows.{IsDriven}
use Rattle.host.proofs.tasks.show_windings.Goals as goal

pub returns : goal.returns
returns c =
    let rig = c.show.new.self in
    let same : rig.settings ≡ c.in_ok-try_from.field-0 = c.show.ensures.kept.0 ∙ c.new.ensures.made.0 in (
      c.in_ok-try_from.field-0,
      rig.dac,
      rig.pwm,
      c.in_ok-try_from.ensures,
      subst (λ (s : Settings). IsDriven s (pos 255) rig.dac rig.pwm) same c.in_ok-show.ensures.driven,
    )
