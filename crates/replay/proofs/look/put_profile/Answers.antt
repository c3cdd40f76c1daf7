use Rattle.std.proofs.Common.{rules}
use Rattle.replay.proofs.Writes.{both, being}
use Rattle.replay.proofs.look.put_profile.Goals as goal

pub returns : goal.returns
returns c = being (both c.put.ensures (both c.put-2.ensures (both c.put-3.ensures c.put-4.ensures))) (search rules)
