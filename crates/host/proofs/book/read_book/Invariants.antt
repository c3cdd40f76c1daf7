use Rattle.std.proofs.Common.{◌≡◌, ◌++◌, length}
use Rattle.ring.specs.Places.{unread_from}
use Rattle.host.proofs.book.read_book.Given as goal

abbrev pub invariant-loop-record : goal.invariant-loop-record
invariant-loop-record l = l.book.items ++ unread_from l.list l.place ≡ unread_from l.list 0

abbrev pub decreases-loop-record : goal.decreases-loop-record
decreases-loop-record l = length (unread_from l.list l.place)
