use Rattle.std.proofs.Common.{◌≡◌, sym, ap, ◌∙◌, arith}
use Rattle.board.specs.Acts.{state_of}
use Rattle.board.specs.Own.{answer_slip}
use Rattle.desk.specs.Keeps.{state_has_kept_slips}
use Rattle.desk.proofs.Taken.{first_none, second_none, keeps_first, keeps_second, keeps_none}
use Rattle.desk.proofs.desk.Desk.take.Goals as goal

pub invariant_of-self : goal.invariant_of-self
invariant_of-self g c =
    let d = c.args.self.now in
    record { kept = keeps_none (state_of d.board.table) d.first d.second d.kept _ _ c.in_err-slip.ensures.performs.answers c.take.ensures.performs.state }

pub put-requires : goal.put-requires
put-requires g c =
    let d = c.args.self.now in
    let k : c.in_ok-slip.slip.axis ≡ 0 = omega arith in
    first_none (state_of d.board.table) d.first d.second d.kept (ap answer_slip (sym k) ∙ c.in_ok-slip.ensures.performs.answers)

pub invariant_of-self-then-gate-eq1 : goal.invariant_of-self-then-gate-eq1
invariant_of-self-then-gate-eq1 g c =
    let d = c.args.self.now in
    let s = c.in_ok-slip.slip in
    let k : s.axis ≡ 0 = omega arith in
    let z = state_of c.take.new.self.table in
    record {
      kept = ap (λ o. state_has_kept_slips z o d.second) c.put.ensures
          ∙ keeps_first (state_of d.board.table) d.first d.second d.kept z s k (ap answer_slip (sym k) ∙ c.in_ok-slip.ensures.performs.answers) c.take.ensures.performs.state;
    }

pub put-requires-else-gate-eq1 : goal.put-requires-else-gate-eq1
put-requires-else-gate-eq1 g c =
    let d = c.args.self.now in
    let k : c.in_ok-slip.slip.axis ≡ 1 = omega (arith, c.in_ok-slip.slip.known) in
    second_none (state_of d.board.table) d.first d.second d.kept (ap answer_slip (sym k) ∙ c.in_ok-slip.ensures.performs.answers)

pub invariant_of-self-else-gate-eq1 : goal.invariant_of-self-else-gate-eq1
invariant_of-self-else-gate-eq1 g c =
    let d = c.args.self.now in
    let s = c.in_ok-slip.slip in
    let k : s.axis ≡ 1 = omega (arith, s.known) in
    let z = state_of c.take.new.self.table in
    record {
      kept = ap (λ o. state_has_kept_slips z d.first o) c.put-else-gate-eq1.ensures
          ∙ keeps_second (state_of d.board.table) d.first d.second d.kept z s k (ap answer_slip (sym k) ∙ c.in_ok-slip.ensures.performs.answers) c.take.ensures.performs.state;
    }
