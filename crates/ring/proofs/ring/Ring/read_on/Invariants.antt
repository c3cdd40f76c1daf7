use Rattle.ring.proofs.ReadsOn.{ReadSoFar}
use Rattle.ring.proofs.ring.Ring.read_on.Given as goal

abbrev pub invariant-loop-i : goal.invariant-loop-i
invariant-loop-i g l = ReadSoFar l.self l.place l.initial.into l.into l.i l.at
