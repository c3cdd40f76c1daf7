use Rattle.std.proofs.Common.{◌≡◌, ◌++◌, take, map, get_or, sym, ap, ◌∙◌, arith}
use Rattle.std.proofs.lemmas.List.{take_all}
use Rattle.std.specs.List.{filter}
use Rattle.gate.specs.declared.events.Event.TheVariants.{MotionComplete}
use Rattle.gate.specs.Events.{all_events, is_set}
use Rattle.gate.specs.Queries.{new_events}
use Rattle.board.specs.Collects.{with_record, with_records, record_of, records_after_collect, items_of}
use Rattle.board.proofs.Batches.{with_records-push, kept_more, kept_same}
use Rattle.board.proofs.collect.Batch.of_new_events.Goals.{then-is_set, else-is_set}
use Rattle.board.proofs.collect.Batch.of_new_events.Goals as goal

pub loop-event-preserved : goal.loop-event-preserved
loop-event-preserved c =
    let i = c.loop-event.event-index in
    let g = c.args.gate.now in
    let f = record_of c.args.number g in
    let test = is_set (new_events g) in
    let e = get_or all_events i MotionComplete in
    let found : test e ≡ c.is_set.result = ap (λ v. is_set v e) (sym c.new_events-events.ensures) ∙ sym c.is_set.ensures in
    elim c.if-is_set.branch [
      | then-is_set w ↦ record {
        short = let h = w.list.ensures.len in let s = c.loop-event.invariant.short in let is = ap (λ b. b.len) w.batch-is in omega arith;
        lists = λ before old.
            ap (λ b. before ++ items_of b) w.batch-is
            ∙ (w.list.ensures.lists before old
            ∙ (ap (λ xs. with_record xs (f e)) (c.loop-event.invariant.lists before old)
            ∙ (sym (with_records-push before (map f (filter test (take i all_events))) (f e))
            ∙ ap (with_records before) (sym (kept_more f test all_events i MotionComplete c.loop-event-test.true (found ∙ w.if-is_set.true))))));
      }
      | else-is_set w ↦ record {
        short = let s = c.loop-event.invariant.short in let is = ap (λ b. b.len) w.batch-is in omega arith;
        lists = λ before old.
            ap (λ b. before ++ items_of b) w.batch-is
            ∙ (c.loop-event.invariant.lists before old
            ∙ ap (with_records before) (sym (kept_same f test all_events i MotionComplete c.loop-event-test.true (found ∙ w.if-is_set.false))));
      }
    ]

pub returns : goal.returns
unfolding records_after_collect
returns c = λ before old.
    let i = c.loop-event.event-index in
    let f = record_of c.args.number c.args.gate.now in
    let test = is_set (new_events c.args.gate.now) in
    c.loop-event.invariant.lists before old
    ∙ ap (λ es. with_records before (map f (filter test es))) (take_all i all_events (omega arith))
