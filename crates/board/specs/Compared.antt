-- What a comparison of one gate on two boards answers.
use Rattle.std.specs.Prelude.{◌≡◌, ℕ, ◌-ℤ◌, Decides, unsigned_abs}
use Rattle.stage.specs.declared.Stage.{Ghosts}
use Rattle.board.specs.declared.board.Board.{Board}
use Rattle.board.specs.declared.board.compare.Comparison.{Comparison}
use Rattle.board.specs.Acts.{state_of, gate_of}
use Rattle.board.specs.Runs.{axis_pair}

-- whether the records of gate k are equal, and how far apart the phases are that the stages show
pub record IsComparison {S R : Type 0} (m : Ghosts S) (b : Board S m) (n : Ghosts R) (d : Board R n) (k : ℕ) (r : Comparison) : Type 0 where
  pub same : Decides r.same (gate_of (state_of b.table) k ≡ gate_of (state_of d.table) k)
  pub apart_phase_a : r.apart.0 ≡ unsigned_abs ((axis_pair (m.pairs b.stage) k).0 -ℤ (axis_pair (n.pairs d.stage) k).0)
  pub apart_phase_b : r.apart.1 ≡ unsigned_abs ((axis_pair (m.pairs b.stage) k).1 -ℤ (axis_pair (n.pairs d.stage) k).1)
