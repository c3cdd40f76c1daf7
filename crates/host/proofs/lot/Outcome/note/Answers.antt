use Rattle.std.proofs.Common.{rules, ◌≡◌, ◌∙◌, ap, ℤ, to_z, of_z, w32, w64}
use Rattle.std.proofs.lemmas.Int.{to_z-of_z}
use Rattle.motion.specs.Course.{microsteps}
use Rattle.host.specs.Lots.{outcome_after}
use Rattle.host.proofs.lot.Outcome.note.Goals as goal

pub returns : goal.returns
returns c =
    let target : to_z w64 (of_z w64 c.args.gate.motion.target) ≡ c.args.gate.motion.target = to_z-of_z w64 _ (search rules) in
    let steps : to_z w32 (of_z w32 c.microsteps-self.result) ≡ microsteps c.args.gate.motion.target = to_z-of_z w32 _ (search rules) ∙ (c.microsteps-self.ensures.is ∙ ap microsteps target) in
    let rest : record c.if-gate-ne0.self { target = microsteps c.args.gate.motion.target } ≡ outcome_after c.args.self.now c.args.gate = search rules in
    ap (λ (z : ℤ). record c.if-gate-ne0.self { target = z }) steps ∙ rest
