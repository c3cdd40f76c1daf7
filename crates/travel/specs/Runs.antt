-- How a gate is followed from cycle to cycle.
use Rattle.std.specs.Prelude.{◌≡◌, ℕ, zero, suc, ◌<◌, ◌≤◌, true, false, ◌⊎◌}
use Rattle.gate.specs.declared.gate.Gate.{Gate}
use Rattle.gate.specs.Cycles.{is_at_rest, cycle}
use Rattle.gate.specs.Inputs.{still_inputs}

-- the gate after so many cycles
abbrev pub gate_after_cycles : ℕ → Gate → Gate
gate_after_cycles zero g = g
gate_after_cycles (suc n) g = cycle still_inputs (gate_after_cycles n g)

-- the gate has run n cycles, at most 10,000, and stood still after none before the last
pub record TravelsFor (n : ℕ) (g h : Gate) : Type 0 where
  pub within : n ≤ 10000
  pub is : h ≡ gate_after_cycles n g
  pub moving : (k : ℕ) → k < n → 0 < k → is_at_rest (gate_after_cycles k g) ≡ false

-- a run has a cycle, and ends at rest or after 10,000
abbrev pub EndsTravel : ℕ → Gate → Type 0
EndsTravel n h = (0 < n) × ((is_at_rest h ≡ true) ⊎ (n ≡ 10000))
