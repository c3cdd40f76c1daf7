-- The clock of a gate: the number of cycles since reset, modulo 2^32.
use Rattle.std.specs.Prelude.{ℕ, ◌+◌, ◌%◌, ◌^◌}
use Rattle.gate.specs.declared.clock.Clock.{Clock}

abbrev pub clock_tick : Clock → Clock
clock_tick c = record { cycles = (c.cycles + 1) % 2 ^ 32 }

-- what is read of it, and what a breakpoint compares
abbrev pub time : Clock → ℕ
time c = c.cycles
