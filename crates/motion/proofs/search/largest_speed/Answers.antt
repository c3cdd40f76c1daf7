use Rattle.std.proofs.Common.{◌≡◌, ◌+◌, ◌<◌, ◌≤◌, arith}
use Rattle.std.proofs.lemmas.Grind.{common_steps}
use Rattle.motion.specs.StoppingDistance.{stopping_distance}
use Rattle.motion.proofs.Falling.{stopping_distance_mono}
use Rattle.motion.proofs.Fastest.{largest_is, largest_next}
use Rattle.motion.proofs.search.largest_speed.Goals as goal

pub returns-then-top-floor-clause-is : goal.returns-then-top-floor-clause-is
returns-then-top-floor-clause-is c = omega (arith, (largest_is c.args.tester.rate c.args.tester.distance c.args.top).within)

-- what the search found, of the tester as it was given
found : (c : goal.After-halve)
    → let low = c.halve.new.self.low in
    (c.args.floor < low → stopping_distance c.args.tester.rate low ≤ c.args.tester.distance)
    × (c.args.tester.distance < stopping_distance c.args.tester.rate (low + 1))
found c =
    let search = c.halve.new.self in
    let rate : search.tester.rate ≡ c.args.tester.rate = grind (arith, common_steps) in
    let distance : search.tester.distance ≡ c.args.tester.distance = grind (arith, common_steps) in
    ((λ above. rw (rate, distance) at (search.allowed (omega arith))), rw (rate, distance, c.halve.ensures.settled) at search.over)

pub returns-clause-best : goal.returns-clause-best
returns-clause-best c above = largest_next _ _ _ _ (omega arith) (omega arith) ((found c).0 above) (found c).1

pub returns-clause-most : goal.returns-clause-most
returns-clause-most c speed above within =
    omega (arith, (found c).1, stopping_distance_mono c.args.tester.rate (c.halve.new.self.low + 1) speed (omega arith) (omega arith))
