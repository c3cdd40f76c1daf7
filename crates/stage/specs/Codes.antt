-- What a make has on its wires, and how that is written.
use Rattle.std.specs.Prelude.{◌≡◌, ℕ, true, List, [], ◌∷◌, ◌++◌, codes, decimal, if◌then◌else◌}
use Rattle.std.specs.List.{join_with_byte}
use Rattle.stage.specs.Levels.{levels}
use Rattle.stage.specs.Pairs.{Pairs}
use Rattle.stage.specs.Dac.{dac_number as word_number}
use Rattle.stage.specs.Pulse.{pulse_number as pulse_number, have_no_negative_zero}
use Rattle.stage.specs.declared.pulse.Pulse.{Pulse}
use Rattle.stage.specs.declared.codes.Codes.{Codes}
use Rattle.stage.specs.declared.codes.Codes.TheVariants.{Words, Pulses}

-- the codes stand for the pairs; a magnitude of 0 has the positive sign
abbrev pub StandsFor : Pairs → Codes → Type 0
StandsFor p (Words one two) = levels word_number one two ≡ p
StandsFor p (Pulses one two) = (levels pulse_number one two ≡ p) × (have_no_negative_zero one ≡ true) × (have_no_negative_zero two ≡ true)

-- a sign, also where it is positive, and a magnitude
abbrev pub pulse_text : Pulse → List ℕ
pulse_text p = (if p.negative then codes "-" else codes "+") ++ decimal p.magnitude

-- the code of each phase, of gate 1 and then of gate 2, with a blank between
abbrev pub codes_text : Codes → List ℕ
codes_text (Words one two) = join_with_byte 32 (decimal one.0 ∷ (decimal one.1 ∷ (decimal two.0 ∷ (decimal two.1 ∷ []))))
codes_text (Pulses one two) = join_with_byte 32 (pulse_text one.0 ∷ (pulse_text one.1 ∷ (pulse_text two.0 ∷ (pulse_text two.1 ∷ []))))
