use Rattle.std.proofs.Common.{refl}
use Rattle.board.specs.Acts.{act_collect, state_of}
use Rattle.desk.proofs.Marks.{still_keeps}
use Rattle.desk.proofs.desk.Desk.collect.Goals as goal

pub invariant_of-self : goal.invariant_of-self
invariant_of-self g c =
    let d = c.args.self.now in
    record { kept = still_keeps (state_of d.board.table) _ (act_collect c.args.gate c.args.list.now) d.first d.second refl c.collect.ensures.performs.state d.kept }
