use Rattle.std.proofs.Common.{◌≡◌, ℕ, refl, subst, arith}
use Rattle.host.specs.Works.{RunsFor, bench_of}
use Rattle.host.proofs.Works.{cycled_by, run_none, run_more}
use Rattle.host.proofs.lots.run.Goals as goal

pub loop-cycle-init : goal.loop-cycle-init
loop-cycle-init g c = λ k. run_none g.S.Stage _

pub loop-cycle-preserved : goal.loop-cycle-preserved
loop-cycle-preserved g c = λ k.
    let m = g.S.Stage in
    let before = bench_of m c.loop-cycle.desk.board k c.loop-cycle.works in
    let after = bench_of m c.cycle.new.self.board k (record c.loop-cycle.works { one = c.note.new.self; two = c.note-in-loop-cycle.new.self }) in
    run_more m c.loop-cycle._cycle _ before after (c.loop-cycle.invariant k)
    (cycled_by m before after c.follow-one.result c.follow-two.result c.record.result c.record-in-loop-cycle.result c.record-in-loop-cycle-2.result c.record-in-loop-cycle-3.result
    c.cycle.ensures c.follow-one.ensures c.record.ensures.is c.follow-two.ensures c.record-in-loop-cycle.ensures.is
    c.note.ensures c.record-in-loop-cycle-2.ensures.is c.note-in-loop-cycle.ensures c.record-in-loop-cycle-3.ensures.is refl refl)

pub returns : goal.returns
returns g c = λ k.
    let m = g.S.Stage in
    let all : c.loop-cycle._cycle ≡ 160 = omega arith in
    subst (λ (n : ℕ). RunsFor m n (bench_of m c.args.desk.now.board k c.args.works.now) (bench_of m c.loop-cycle.desk.board k c.loop-cycle.works)) all (c.loop-cycle.invariant k)
