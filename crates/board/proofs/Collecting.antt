-- What an accepted collect makes of its list.
use Rattle.std.proofs.Common.{◌≡◌, ℕ, ◌-◌, Bool, true, false, cond, ◌&&◌, Ok, Err, Result, sym, subst}
use Rattle.std.specs.Prelude.{OnOk}
use Rattle.ring.specs.Listing.{Listing}
use Rattle.stage.specs.Pairs.{is_gate}
use Rattle.board.specs.declared.collect.EventRecord.{EventRecord}
use Rattle.board.specs.declared.refusal.Refusal.{Refusal}
use Rattle.board.specs.Collects.{has_room, with_new_records, ListsEachOnce}
use Rattle.board.specs.Own.{answer_done}
use Rattle.board.specs.Acts.{State, gate_of, transition_answer, answer, answer_of_unit, list_after_collect, act_collect}
use Rattle.board.proofs.Transitions.{collect_transition}
use Rattle.board.proofs.EachOnce.{lists_each_once}

pub accounts : (s : State) (n : ℕ) (l : Listing EventRecord) (r : Result (Unit {0}) Refusal) (after : Listing EventRecord)
    → answer_of_unit r ≡ answer s (act_collect n l)
    → after ≡ list_after_collect s n l → OnOk r (ListsEachOnce n (gate_of s (n - 1)) l.records after.records)
accounts s n l (Err e) after answers is = tt
accounts s n l (Ok u) after answers is =
    subst (λ (m : Listing EventRecord). ListsEachOnce n (gate_of s (n - 1)) l.records m.records) (sym is) (go (is_gate n) (has_room n (gate_of s (n - 1)) l) answers)
  where
    go : (a b : Bool) → answer_done ≡ transition_answer s (collect_transition n a b)
        → ListsEachOnce n (gate_of s (n - 1)) l.records (cond (a && b) (with_new_records n (gate_of s (n - 1)) l) l).records
    go true true h = lists_each_once n (gate_of s (n - 1)) l.records
    go true false h = cc
    go false b h = cc
