-- The DAC words: gate 1 phase A, gate 1 phase B, gate 2 phase A, gate 2 phase B.
use Rattle.std.specs.Prelude.{ℕ, cond, ℤ, pos, ◌-ℤ◌, ◌==◌}
use Rattle.stage.specs.Levels.{levels}
use Rattle.stage.specs.Pairs.{Pairs}
use Rattle.stage.specs.declared.dac.Word.{Word}
use Rattle.stage.specs.declared.levels.Levels.{Levels}

-- the number that a word stands for
abbrev pub dac_number : ℕ → ℤ
dac_number w = pos w -ℤ pos 32768

abbrev pub dac_pairs : Levels Word → Pairs
dac_pairs d = levels (λ w. dac_number w.0) d.one d.two

-- the number shown at an address from 0 to 3
abbrev pub number_at_address : Pairs → ℕ → ℤ
number_at_address p address =
    cond (address == 0) p.one.0 (cond (address == 1) p.one.1 (cond (address == 2) p.two.0 p.two.1))
