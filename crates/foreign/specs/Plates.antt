-- The pairs that a plate holds.
use Rattle.std.specs.Prelude.{ℤ}
use Rattle.stage.specs.Pairs.{Pairs}

abbrev pub plate_pairs : ℤ × ℤ → ℤ × ℤ → Pairs
plate_pairs one two = record { one = one; two = two }
