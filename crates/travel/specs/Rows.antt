-- What one line of a journey holds.
use Rattle.std.specs.Prelude.{◌≡◌, ℕ, cond, not, List, codes}
use Rattle.motion.specs.Course.{microsteps}
use Rattle.gate.specs.declared.gate.Gate.{Gate}
use Rattle.gate.specs.Clock.{time}
use Rattle.gate.specs.Cycles.{is_at_rest, gate_phases}
use Rattle.travel.specs.declared.row.Row.{Row}

-- the row shows the gate as it stands
pub record ShowsGate (g : Gate) (r : Row) : Type 0 where
  pub cycle : r.cycle ≡ time g.clock
  pub velocity : r.velocity ≡ g.motion.velocity
  pub target : r.target ≡ microsteps g.motion.target
  pub phases : r.phases ≡ gate_phases g
  pub complete : r.complete ≡ g.events.complete
  pub moving : r.moving ≡ not (is_at_rest g)

-- the word for it in the last column
abbrev pub state_text : Row → List ℕ
state_text r = cond r.moving (codes "moving") (cond r.complete (codes "motion complete") (codes "at rest"))
