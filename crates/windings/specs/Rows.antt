-- What one line of a trial holds.
use Rattle.std.specs.Prelude.{◌≡◌, ℕ, true, cond, ℤ}
use Rattle.stage.specs.Dac.{dac_number, dac_pairs}
use Rattle.stage.specs.Pairs.{Pair, quantized_pair}
use Rattle.stage.specs.Pulse.{pulse_numbers, have_no_negative_zero}
use Rattle.stage.specs.Pwm.{pwm_pairs}
use Rattle.stage.specs.Wiring.{unwired_pair, wiring_pairs}
use Rattle.stage.specs.declared.dac.Word.{Word}
use Rattle.stage.specs.declared.levels.Levels.{Levels}
use Rattle.stage.specs.declared.pulse.Pulse.{Pulse}
use Rattle.stage.specs.declared.pwm.Lines.{Lines}
use Rattle.stage.specs.declared.wiring.GateWiring.{GateWiring}
use Rattle.stage.specs.declared.wiring.Wiring.{Wiring}
use Rattle.wave.specs.Phases.{phases}
use Rattle.windings.specs.declared.row.Row.{Row}
use Rattle.windings.specs.declared.settings.Settings.{Settings}

-- the numbers that two DAC words stand for
abbrev pub dac_numbers : ℕ × ℕ → Pair
dac_numbers w = (dac_number w.0, dac_number w.1)

-- the phases of the motor at a position, the pair that each stage shows of them, and the codes that stand for these on the wires
pub record MeasuresAt (s : Settings) (wire : GateWiring) (position : ℤ) (r : Row) : Type 0 where
  pub at : r.position ≡ position
  pub computed : r.phases ≡ phases s.kind s.power position
  pub dac : r.dac ≡ quantized_pair 1 (phases s.kind s.power position)
  pub words : dac_numbers r.words ≡ r.dac
  pub pwm : r.pwm ≡ quantized_pair 128 (phases s.kind s.power position)
  pub pulses : unwired_pair wire (pulse_numbers r.pulses) ≡ r.pwm
  pub signs : have_no_negative_zero r.pulses ≡ true

-- both stages show gate 1 what they keep of the phases of the motor at a position
pub record IsDriven (s : Settings) (position : ℤ) (d : Levels Word) (w : Wiring (Levels Lines)) : Type 0 where
  pub dac : (dac_pairs d).one ≡ quantized_pair 1 (phases s.kind s.power position)
  pub pwm : (wiring_pairs pwm_pairs w).one ≡ quantized_pair 128 (phases s.kind s.power position)

-- gate 2 is not driven: no stage shows anything else of it than before
pub record SparesGateTwo (d e : Levels Word) (w x : Wiring (Levels Lines)) : Type 0 where
  pub dac : (dac_pairs e).two ≡ (dac_pairs d).two
  pub pwm : (wiring_pairs pwm_pairs x).two ≡ (wiring_pairs pwm_pairs w).two

-- the sign of a pulse as it is printed: '-' or '+'
abbrev pub sign_of : Pulse → ℕ
sign_of p = cond p.negative 45 43
