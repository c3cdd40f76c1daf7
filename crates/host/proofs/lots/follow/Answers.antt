use Rattle.std.proofs.Common.{rules, ◌≡◌, ◌∙◌, ap, ℤ, to_z, of_z, w32, pos, negsuc, ◌-ℤ◌}
use Rattle.std.specs.Int.{w16, int_max, int_min}
use Rattle.std.proofs.lemmas.Int.{to_z-of_z}
use Rattle.motion.specs.Course.{microsteps}
use Rattle.gate.specs.Inputs.{still_inputs}
use Rattle.host.proofs.lots.follow.Goals as goal

pub returns : goal.returns
returns c =
    let z = c.clamp.result in
    let long : to_z w32 (of_z w32 z) ≡ z = to_z-of_z w32 z (search rules) in
    let word : to_z w16 (of_z w16 z) ≡ z = to_z-of_z w16 z (search rules) in
    let value = c.clamp.ensures.value in
    let ahead : z ≡ int_max (negsuc 32767) (int_min (microsteps c.args.gate.motion.target -ℤ c.args.gate.actual) (pos 32767)) = search rules in
    ap (λ (n : ℤ). record still_inputs { count = n }) (ap (λ (n : ℤ). to_z w16 (of_z w16 n)) long ∙ word ∙ ahead)
