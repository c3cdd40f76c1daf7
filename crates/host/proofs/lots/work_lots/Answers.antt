use Rattle.std.proofs.Common.{◌≡◌, ℕ, List, length, refl, ◌∙◌, ap, sym, subst, arith}
use Rattle.std.specs.Option.{option_copied}
use Rattle.host.specs.Works.{Notes, ForGateTwo, IfSomething, MakesReady, SparesList, WorksInTurn, bench_of, notes_of, reading_of}
use Rattle.host.specs.declared.lot.Lot.{Lot}
use Rattle.host.proofs.Works.{turns_more, if_lots, if_no_lots}
use Rattle.host.proofs.lots.work_lots.Goals as goal
use Rattle.host.proofs.lots.work_lots.Goals.{then-is_some+in_ok-prepare-2, else-is_some}

pub loop-index-preserved : goal.loop-index-preserved
loop-index-preserved g c =
    let m = g.S.Stage in
    let before = bench_of m c.loop-index.desk.board c.loop-index.list c.loop-index.works in
    let after = bench_of m c.work_lot.new.desk.board c.work_lot.new.list c.work_lot.new.works in
    turns_more m c.args.lots_one.now (option_copied c.args.lots_two) c.loop-index.index _ c.lot_at.result _ before after (omega arith) c.lot_at.ensures c.loop-index.invariant c.in_ok-work_lot.ensures

pub returns : goal.returns
returns g c =
    let m = g.S.Stage in
    let all : c.loop-index.index ≡ length c.args.lots_one.now = omega arith in
    let list = c.args.list.now in
    let fresh = c.new-works.result in
    let ready = bench_of m c.prepare.new.desk.board list (record fresh { one = c.prepare.new.self }) in
    let both = bench_of m c.if-is_some.desk.board list c.if-is_some.works in
    let after = bench_of m c.loop-index.desk.board c.loop-index.list c.loop-index.works in
    let lots = option_copied c.args.lots_two in
    let P = MakesReady m 12000 0 in
    let second : ForGateTwo m (IfSomething m (λ (lots : List Lot). SparesList m P) lots) ready both = elim c.if-is_some.branch [
      | then-is_some+in_ok-prepare-2 w ↦
          let works = ap (λ works. notes_of works.two) w.works-is in
          let desk = ap (λ desk. desk.board) w.desk-is in (
            if_lots m P c.args.lots_two ready.notes_two _ both.notes_two ready.board _ both.board list (sym c.is_some.ensures ∙ w.if-is_some.true) works desk w.in_ok-prepare-2.ensures,
            ap (λ works. notes_of works.one) w.works-is,
            ap (λ works. reading_of works.panel) w.works-is,
          )
      | else-is_some w ↦ (
        if_no_lots m P c.args.lots_two ready.notes_two both.notes_two ready.board both.board list (sym c.is_some.ensures ∙ w.if-is_some.false) (ap (λ works. notes_of works.two) w.works-is) (ap (λ desk. desk.board) w.desk-is),
        ap (λ works. notes_of works.one) w.works-is,
        ap (λ works. reading_of works.panel) w.works-is,
      )
    ] in
    record {
      ready = ready;
      both = both;
      one_ready = (
        (subst (λ (x : Notes). MakesReady m 20000 1 x c.args.desk.now.board ready.notes_one ready.board) c.new-works.ensures.one c.in_ok-prepare.ensures, refl),
        c.new-works.ensures.two,
        c.new-works.ensures.panel,
      );
      two_ready = second;
      turns = subst (λ (k : ℕ). WorksInTurn m c.args.lots_one.now lots k both after) all c.loop-index.invariant;
    }
