use Rattle.std.proofs.Common.{rules}
use Rattle.replay.proofs.Writes.{both, being}
use Rattle.replay.proofs.look.put_look.Goals as goal

pub returns : goal.returns
returns g c =
    being (both c.put.ensures (both c.put_pair.ensures (both c.put_pair-2.ensures (both c.put_record.ensures c.put_record-2.ensures)))) (search rules)
