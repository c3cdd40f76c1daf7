use Rattle.std.proofs.Common.{◌≡◌, arith}
use Rattle.ring.proofs.ReadsOn.{begun, more, count_at_end, count_at_most, carried}
use Rattle.ring.proofs.ring.Ring.read_on.Goals as goal

pub loop-i-init : goal.loop-i-init
loop-i-init g c = begun c.args.self.now c.args.place c.args.into.now

pub loop-i-preserved : goal.loop-i-preserved
loop-i-preserved g c = more _ _ _ _ _ _ c.loop-i.invariant _ _ (omega arith) c.in-Some.ensures.goes_on

pub returns-in_default : goal.returns-in_default
returns-in_default g c =
    let s = c.loop-i.invariant in
    record {
      count = count_at_end _ _ _ _ _ _ s (omega arith) c.in_default.ensures.goes_on;
      gets = s.gets;
      left = s.left;
      none = s.none;
      carried = carried _ _ _ _ _ _ s (omega arith);
    }

pub returns : goal.returns
returns g c =
    let s = c.loop-i.invariant in
    let e : c.loop-i.i ≡ c.min-most.result = omega arith in
    rw (← e) (record {
      count = count_at_most _ _ _ _ _ _ s (omega arith);
      gets = s.gets;
      left = s.left;
      none = s.none;
      carried = carried _ _ _ _ _ _ s (omega arith);
    })
