use Rattle.std.proofs.Common.{◌^◌, ◌<◌, length, sym, arith}
use Rattle.std.proofs.lemmas.Option.{slice_get_past}
use Rattle.ring.proofs.Places.{place_of-rest, unread_from-rest, unread_from-rest_passed}
use Rattle.ring.proofs.Seen.{seen, after_remove, remove_empty}
use Rattle.ring.proofs.ring.Ring.remove.Goals as goal

pub returns-then-self-eq0 : goal.returns-then-self-eq0
returns-then-self-eq0 g c =
    let s = seen c.args.self.now _ _ _ _ c.self.view_is c.self.invariant in
    let v = c.args.self.now in
    let is = remove_empty v (omega arith) in
    let fits : length v.records < 2 ^ 64 = omega arith in
    let listed : v.listed < 2 ^ 64 = omega arith in
    record {
      oldest = sym (slice_get_past v.records 0 (omega arith));
      rest = is;
      places = place_of-rest v fits listed _ is;
      readers = unread_from-rest v fits listed _ is;
      passed = unread_from-rest_passed v fits listed _ is;
    }

pub stored-oldest-requires : goal.stored-oldest-requires
stored-oldest-requires g c =
    let s = seen c.args.self.now _ _ _ _ c.self.view_is c.self.invariant in
    omega arith

pub returns : goal.returns
returns g c =
    let s = seen c.args.self.now _ _ _ _ c.self.view_is c.self.invariant in
    let v = c.args.self.now in
    let is = after_remove v _ _ _ _ c.self.view_is c.self.invariant c.slot-self-inside.result (omega arith) c.slot-self-inside.ensures.slot in
    let fits : length v.records < 2 ^ 64 = omega arith in
    let listed : v.listed < 2 ^ 64 = omega arith in
    record {
      oldest = sym c.stored-oldest.ensures;
      rest = is;
      places = place_of-rest v fits listed _ is;
      readers = unread_from-rest v fits listed _ is;
      passed = unread_from-rest_passed v fits listed _ is;
    }
