use Rattle.std.proofs.Common.{◌≡◌, ap₂, Ok, Err, Result, ◌%◌, ◌^◌, ◌+◌, ◌-◌, length, sym, ◌∙◌, subst, arith, rules}
use Rattle.std.specs.Prelude.{IsOk, OnOk, IsTrue, ◌↔◌, nat_le}
use Rattle.std.proofs.lemmas.List.{append-nil}
use Rattle.gate.proofs.Equalities.{events_decides}
use Rattle.ring.specs.declared.ring.Full.{Full}
use Rattle.ring.specs.Listing.{listing}
use Rattle.board.proofs.Batches.{nothing_new}
use Rattle.board.proofs.collect.EventRecord.list_new.Goals as goal

-- a fact of an accepted call gives another
on_ok : (r : Result (Unit {0}) Full) (P Q : Type 0) → (P → Q) → OnOk r P → OnOk r Q
on_ok (Ok u) P Q f p = f p
on_ok (Err e) P Q f p = tt

pub returns-then-eq-clause-room : goal.returns-then-eq-clause-room
returns-then-eq-clause-room c =
    let g = c.args.gate.now in
    let l = c.args.list.now in
    let still = nothing_new c.args.number g l.records ((events_decides g.events g.found).0 (sym c.eq.ensures ∙ c.if-eq.true)) in
    subst (λ rs. IsOk c.push_all.result ↔ IsTrue (nat_le (length rs) l.capacity)) (sym still) (search rules)

pub returns-then-eq-clause-ok : goal.returns-then-eq-clause-ok
returns-then-eq-clause-ok c =
    let g = c.args.gate.now in
    let l = c.args.list.now in
    let still = nothing_new c.args.number g l.records ((events_decides g.events g.found).0 (sym c.eq.ensures ∙ c.if-eq.true)) in
    subst (λ rs. OnOk c.push_all.result (c.push_all.new.self ≡ listing rs ((l.listed + (length rs - length l.records)) % 2 ^ 64) l.capacity)) (sym still)
    (on_ok c.push_all.result _ _ (λ is. is ∙ ap₂ (λ rs k. listing rs ((l.listed + k) % 2 ^ 64) l.capacity) (append-nil l.records) (let none : 0 ≡ length l.records - length l.records = omega arith in none)) c.push_all.ensures.ok)
