use Rattle.std.proofs.Common.{refl}
use Rattle.std.proofs.lemmas.Result.{on_ok_weaker}
use Rattle.host.specs.Works.{bench_of}
use Rattle.host.proofs.lots.work_lot.Goals as goal

pub returns : goal.returns
returns g c =
    let m = g.S.Stage in
    let works = c.args.works.now in
    let ordered = record works { one = c.order.new.self } in
    let both = record ordered { two = c.order_if.new.self } in
    let ran = c.run.new.works in
    let collected = record ran { one = c.collect.new.self } in
    let listed = record collected { two = c.collect_if.new.self } in
    let read = record listed { panel = c.read_on.new.self } in
    on_ok_weaker c.serve.result (λ served. record {
      ordered = bench_of m c.order.new.desk.board c.order.new.list ordered;
      both = bench_of m c.order_if.new.desk.board c.order_if.new.list both;
      ran = bench_of m c.run.new.desk.board c.order_if.new.list ran;
      collected = bench_of m c.collect.new.desk.board c.collect.new.list collected;
      listed = bench_of m c.collect_if.new.desk.board c.collect_if.new.list listed;
      read = bench_of m c.collect_if.new.desk.board c.collect_if.new.list read;
      taken = served.0;
      one_orders = (c.in_ok-order.ensures, refl, refl);
      two_orders = (c.in_ok-order_if.ensures, refl, refl);
      runs = c.run.ensures c.order_if.new.list;
      one_collects = (c.in_ok-collect.ensures, refl, refl);
      two_collects = (c.in_ok-collect_if.ensures, refl, refl);
      panel_reads = (c.in_ok-read_on.ensures, refl);
      one_served = ((served.1, refl), refl, refl);
    }) c.serve.ensures
