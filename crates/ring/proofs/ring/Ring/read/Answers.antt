use Rattle.std.proofs.Common.{◌^◌, ◌<◌, length, arith}
use Rattle.ring.proofs.Places.{read_none, read_some, ends, goes_on, unread_from-at_place, unread_from-elsewhere}
use Rattle.ring.proofs.Seen.{seen}
use Rattle.ring.proofs.ring.Ring.read.Goals as goal

pub returns-then-i-self : goal.returns-then-i-self
returns-then-i-self g c =
    let s = seen c.args.self.now _ _ _ _ c.self.view_is c.self.invariant in
    let v = c.args.self.now in
    let p = c.args.place in
    let fits : length v.records < 2 ^ 64 = omega arith in
    record {
      is = read_none v p _ c.index-i.ensures.index (omega arith);
      goes_on = ends v p _ c.index-i.ensures.index (omega arith);
      at_place = unread_from-at_place v fits p;
      elsewhere = unread_from-elsewhere v fits p c.ranges.place.fits;
    }

pub stored-requires : goal.stored-requires
stored-requires g c =
    let s = seen c.args.self.now _ _ _ _ c.self.view_is c.self.invariant in
    omega arith

pub overflow_add-i : goal.overflow_add-i
overflow_add-i g c =
    let s = seen c.args.self.now _ _ _ _ c.self.view_is c.self.invariant in
    omega arith

pub place-requires : goal.place-requires
place-requires g c =
    let s = seen c.args.self.now _ _ _ _ c.self.view_is c.self.invariant in
    omega arith

pub returns : goal.returns
returns g c =
    let s = seen c.args.self.now _ _ _ _ c.self.view_is c.self.invariant in
    let v = c.args.self.now in
    let p = c.args.place in
    let fits : length v.records < 2 ^ 64 = omega arith in
    record {
      is = read_some v p _ _ _ c.index-i.ensures.index c.stored.ensures c.place.ensures;
      goes_on = goes_on v p _ _ _ c.index-i.ensures.index c.stored.ensures c.place.ensures fits;
      at_place = unread_from-at_place v fits p;
      elsewhere = unread_from-elsewhere v fits p c.ranges.place.fits;
    }
