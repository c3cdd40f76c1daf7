use Rattle.std.proofs.Common.{◌≡◌, sym, subst}
use Rattle.gate.specs.declared.gate.Gate.{Gate}
use Rattle.gate.specs.Cycles.{cycle}
use Rattle.gate.specs.Laws.{RespectsProfile, StepsInOrder}
use Rattle.gate.proofs.Steps.{chained, cycle_paced, cycle_ordered}
use Rattle.gate.proofs.gate.Gate.cycle.Goals as goal

pub returns : goal.returns
returns c =
    let i = c.args.inputs in
    let g = c.args.self.now in
    let is : c.settle.new.self ≡ cycle i g =
    chained i g c.tick.new.self c.add_count.new.self c.trip.new.self c.meet.new.self c.advance.new.self c.settle.new.self
    c.tick.ensures.is c.add_count.ensures.is c.trip.ensures.is c.meet.ensures.is c.advance.ensures.is c.settle.ensures.is in
    record {
      is = is;
      shows = c.phases.ensures;
      sound = c.settle.ensures.sound;
      paced = subst (λ (h : Gate). RespectsProfile g h) (sym is) (cycle_paced i g);
      ordered = subst (λ (h : Gate). StepsInOrder i g h) (sym is) (cycle_ordered i g);
    }
