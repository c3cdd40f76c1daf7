use Rattle.std.proofs.Common.{◌≡◌, length}
use Rattle.host.proofs.book.clear.Given as goal

abbrev pub invariant-loop-removed : goal.invariant-loop-removed
invariant-loop-removed l = l.list ≡ record l.initial.list { records = l.list.records }

abbrev pub decreases-loop-removed : goal.decreases-loop-removed
decreases-loop-removed l = length l.list.records
