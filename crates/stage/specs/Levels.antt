-- What the kept numbers of two gates stand for.
use Rattle.std.specs.Prelude.{ℤ}
use Rattle.stage.specs.Pairs.{Pairs}

-- the pairs of gates 1 and 2, of which each keeps two numbers in a form
abbrev pub levels : {F : Type 0} → (F → ℤ) → F × F → F × F → Pairs
levels number one two = record { one = (number one.0, number one.1); two = (number two.0, number two.1) }
