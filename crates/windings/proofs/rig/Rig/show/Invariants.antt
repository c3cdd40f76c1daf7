use Rattle.std.proofs.Common.{◌≡◌, pos, ◌-ℤ◌, ◌<ℤ◌, ◌≤ℤ◌}
use Rattle.stage.specs.Wiring.{wires_of}
use Rattle.windings.specs.Rows.{IsDriven, SparesGateTwo}
use Rattle.windings.proofs.rig.Rig.show.Given as goal

abbrev pub invariant-loop-position : goal.invariant-loop-position
invariant-loop-position g l = record {
  settings : l.self.settings ≡ l.fn.self.settings;
  wires : wires_of l.self.pwm ≡ wires_of l.fn.self.pwm;
  spared : SparesGateTwo l.fn.self.dac l.self.dac l.fn.self.pwm l.self.pwm;
  within : l.position ≤ℤ pos 256;
  driven : pos 0 <ℤ l.position → IsDriven l.self.settings (l.position -ℤ pos 1) l.self.dac l.self.pwm;
}
