use Rattle.std.proofs.Common.{refl, rules}
use Rattle.stage.proofs.Wires.{seen}
use Rattle.stage.proofs.wiring.WiringStage.show.Goals as goal

pub returns : goal.returns
returns g c =
    let s = c.args.self.now in
    record {
      pairs = seen g.S.Stage.STEP c.args.gate s.one s.two c.wire.result _ _ c.args.a c.args.b _ _ c.wire.ensures.first c.wire.ensures.second (search rules) c.show.ensures;
      wires = refl;
    }
