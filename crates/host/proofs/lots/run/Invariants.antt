use Rattle.ring.specs.Listing.{Listing}
use Rattle.board.specs.declared.collect.EventRecord.{EventRecord}
use Rattle.host.specs.Works.{RunsFor, bench_of}
use Rattle.host.proofs.lots.run.Given as goal

abbrev pub invariant-loop-cycle : goal.invariant-loop-cycle
invariant-loop-cycle g l =
    (k : Listing EventRecord) → RunsFor g.S.Stage l._cycle (bench_of g.S.Stage l.fn.desk.board k l.fn.works) (bench_of g.S.Stage l.desk.board k l.works)
