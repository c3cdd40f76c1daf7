use Rattle.std.specs.Option.{option_copied}
use Rattle.host.specs.Works.{WorksInTurn, bench_of}
use Rattle.host.proofs.lots.work_lots.Given as goal

abbrev pub invariant-loop-index : goal.invariant-loop-index
invariant-loop-index g l =
    WorksInTurn g.S.Stage l.lots_one (option_copied l.lots_two) l.index (bench_of g.S.Stage l.initial.desk.board l.initial.list l.initial.works)
    (bench_of g.S.Stage l.desk.board l.list l.works)
