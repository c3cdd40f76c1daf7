use Rattle.std.proofs.Common.{◌≡◌, ◌<◌, false}
use Rattle.gate.specs.Cycles.{is_at_rest}
use Rattle.travel.specs.Runs.{TravelsFor}
use Rattle.travel.proofs.journey.Journey.show.Given as goal

abbrev pub invariant-loop-cycle : goal.invariant-loop-cycle
invariant-loop-cycle g l =
    TravelsFor l._cycle l.fn.self.gate l.self.gate × (0 < l._cycle → is_at_rest l.self.gate ≡ false)
