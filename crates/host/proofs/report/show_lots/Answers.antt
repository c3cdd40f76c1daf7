use Rattle.std.proofs.Common.{Result, Ok, Err, OnOk, refl}
use Rattle.desk.specs.Desks.{board_of}
use Rattle.host.specs.Works.{bench_of}
use Rattle.host.proofs.report.show_lots.Goals as goal

on_ok : {T E P : Type 0} (r : Result T E) → P → OnOk r P
on_ok (Ok x) p = p
on_ok (Err e) p = tt

pub returns : goal.returns
returns g c =
    let a = bench_of g.S.Stage (board_of c.work_lots.new.desk) c.work_lots.new.list c.in_ok-first.first in
    let b = bench_of g.R.Stage (board_of c.work_lots-2.new.desk) c.work_lots-2.new.list c.in_ok-second.second in
    on_ok c.show_comparison-2.result ((a, c.in_ok-first.ensures, refl, c.in_ok-show_book.ensures), (b, c.in_ok-second.ensures, refl, c.in_ok-show_book-2.ensures))
