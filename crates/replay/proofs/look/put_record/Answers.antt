use Rattle.std.proofs.Common.{rules}
use Rattle.replay.proofs.Writes.{both, being}
use Rattle.replay.proofs.look.put_record.Goals as goal

pub returns : goal.returns
returns c =
    being (both c.put_profile.ensures (both c.put_profile-2.ensures (both c.put.ensures (both c.put-2.ensures (both c.put_motion.ensures (both c.put-3.ensures (both c.put_breakpoint.ensures c.put_flags.ensures))))))) (search rules)
