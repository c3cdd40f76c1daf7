use Rattle.std.proofs.Common.{◌≡◌, ap, length, nat_eq, arith}
use Rattle.std.specs.Prelude.{IsTrue, ◌↔◌}
use Rattle.std.proofs.lemmas.Bool.Decides.{nat_tests}
use Rattle.std.proofs.lemmas.List.{nil_from_length}
use Rattle.ring.proofs.Seen.{seen}
use Rattle.ring.proofs.ring.Ring.is_empty.Goals as goal

pub returns : goal.returns
returns g c =
    let s = seen c.args.self.now _ _ _ _ c.self.view_is c.self.invariant in
    let none : IsTrue (nat_eq c.self.inside.len 0) ↔ (length c.args.self.now.records ≡ 0) = grind (arith, nat_tests) in
    ((λ t. nil_from_length c.args.self.now.records (none.0 t)), (λ e. none.1 (ap length e)))
