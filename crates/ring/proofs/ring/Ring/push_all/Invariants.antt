use Rattle.std.proofs.Common.{◌≡◌, ◌+◌, ◌≤◌, length, take}
use Rattle.ring.specs.Places.{with_more}
use Rattle.ring.proofs.ring.Ring.push_all.Given as goal

abbrev pub invariant-loop-record : goal.invariant-loop-record
invariant-loop-record g l = record {
  fits : length l.fn.self.records + length l.latest ≤ l.fn.self.capacity;
  lists : l.self ≡ with_more l.fn.self (take l.record-index l.latest);
}
