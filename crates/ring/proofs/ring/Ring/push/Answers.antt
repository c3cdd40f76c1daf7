use Rattle.std.proofs.Common.{◌^◌, ◌<◌, [], ◌∷◌, length, sym, subst, arith, rules}
use Rattle.std.proofs.lemmas.Grind.{common_steps}
use Rattle.std.proofs.lemmas.List.{length_push}
use Rattle.ring.proofs.Places.{place_of-with_more, unread_from-with_more}
use Rattle.ring.proofs.Seen.{seen, after_push}
use Rattle.ring.proofs.ring.Ring.push.Goals as goal

pub returns-then-self-size-clause-room : goal.returns-then-self-size-clause-room
returns-then-self-size-clause-room g c =
    let s = seen c.args.self.now _ _ _ _ c.self.view_is c.self.invariant in
    grind (arith, common_steps)

pub returns : goal.returns
returns g c =
    let s = seen c.args.self.now _ _ _ _ c.self.view_is c.self.invariant in
    let v = c.args.self.now in
    let x = c.args.latest in
    let is = after_push v _ _ _ _ c.self.view_is c.self.invariant c.slot-end.result x (omega arith) c.slot-end.ensures.slot in
    let fits = subst (λ w. length w.records < 2 ^ 64) (sym is) (omega (arith, length_push v.records x)) in
    record {
      room = grind (arith, common_steps);
      ok = is;
      full = search rules;
      places = place_of-with_more v (x ∷ []) _ is fits;
      readers = unread_from-with_more v (x ∷ []) _ is fits;
    }
