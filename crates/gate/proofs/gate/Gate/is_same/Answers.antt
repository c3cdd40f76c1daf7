use Rattle.std.proofs.lemmas.Bool.Decides.{Decides-at}
use Rattle.gate.proofs.Equalities.{gate_decides}
use Rattle.gate.proofs.gate.Gate.is_same.Goals as goal

pub returns : goal.returns
returns c = Decides-at _ _ c.eq.ensures (gate_decides c.args.self.now c.args.other.now)
