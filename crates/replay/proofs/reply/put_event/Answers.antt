use Rattle.std.proofs.Common.{rules}
use Rattle.replay.proofs.Writes.{both, being}
use Rattle.replay.proofs.reply.put_event.Goals as goal

pub returns : goal.returns
returns c = being (both c.put.ensures (both c.put-2.ensures c.put-3.ensures)) (search rules)
