use Rattle.std.proofs.Common.{◌≡◌, ℕ, ◌+◌, ◌*◌, ◌<◌, ap, mul-div_cancel, mod-lt, arith}
use Rattle.std.proofs.lemmas.Nat.{div-add-mod'}
use Rattle.motion.specs.StoppingDistance.{stopping_distance}
use Rattle.motion.proofs.Falling.{stopping_distance_closed}
use Rattle.motion.proofs.rate.Rate.stopping_distance.Goals as goal

-- the closed form, of what is computed
closed : (c : goal.After-from)
    → (c.from-whole.result + 1) * (c.from.result + c.from-rest.result) ≡ stopping_distance c.args.self.size c.args.speed * 2
closed c =
    let speed = c.args.speed in
    let size = c.args.self.size in
    let split : c.from.result ≡ c.from-whole.result * size + c.from-rest.result =
    omega (arith, div-add-mod' speed size, ap (λ (n : ℕ). n * size) c.from-whole.ensures)
    in
    let rest : c.from-rest.result < size = omega (arith, mod-lt speed {m = size} (omega arith)) in
    omega (
      arith,
      stopping_distance_closed size c.from.result c.from-whole.result c.from-rest.result (omega arith) split rest,
      ap (stopping_distance size) c.from.ensures,
    )

pub returns : goal.returns
returns c = rw (closed c) (mul-div_cancel (stopping_distance c.args.self.size c.args.speed) {n = 2} (omega arith))
