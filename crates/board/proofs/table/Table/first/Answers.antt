use Rattle.std.proofs.Common.{Some, None, cond, sym, ap, rules}
use Rattle.board.proofs.table.Table.first.Goals as goal

pub returns-then-one : goal.returns-then-one
returns-then-one g c =
    record { is = (c.test-one.result, c.test-two.result, search rules, search rules, sym (ap (λ b. cond b (Some 0) (cond c.test-two.result (Some 1) None)) c.if-one.true)) }
