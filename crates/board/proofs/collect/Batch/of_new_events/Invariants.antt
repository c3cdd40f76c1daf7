use Rattle.std.proofs.Common.{◌≡◌, ◌≤◌, ◌++◌, List, map, take}
use Rattle.std.specs.List.{filter}
use Rattle.gate.specs.Events.{all_events, is_set}
use Rattle.gate.specs.Queries.{new_events}
use Rattle.board.specs.declared.collect.EventRecord.{EventRecord}
use Rattle.board.specs.Collects.{newest_of, with_records, record_of, items_of}
use Rattle.board.proofs.collect.Batch.of_new_events.Given as goal

abbrev pub invariant-loop-event : goal.invariant-loop-event
invariant-loop-event l = record {
  short : l.batch.len ≤ l.event-index;
  lists :
      (before : List EventRecord) → l.fn.newest ≡ newest_of before
      → before ++ items_of l.batch
      ≡ with_records before (map (record_of l.fn.number l.fn.gate) (filter (is_set (new_events l.fn.gate)) (take l.event-index all_events)));
}
