use Rattle.std.proofs.Common.{◌≡◌, Bool, true, false, Ok, refl, sym, ap, ◌∙◌, ℤ, w32, SFits, to_z, rules}
use Rattle.std.proofs.lemmas.Int.{to_z-of_z}
use Rattle.gate.specs.declared.load.Load.TheVariants.{Acceleration}
use Rattle.gate.specs.Loads.{is_in_signed_range, is_load_in_range}
use Rattle.gate.specs.Orders.{value_if_fits}
use Rattle.gate.proofs.gate.Gate.try_long.Goals as goal

-- a value that its check lets through fits
checked_fits : {A : Type 0} (fits : A → Bool) (x y : A) → value_if_fits (fits x) x ≡ Ok y → fits y ≡ true
checked_fits fits x y h = go (fits x) refl h
  where
    go : (b : Bool) → fits x ≡ b → value_if_fits b x ≡ Ok y → fits y ≡ true
    go true e h = let same : x ≡ y = cc in ap fits (sym same) ∙ e
    go false e h = cc

pub returns-in_ok-position-in-Destination-clause-sound : goal.returns-in_ok-position-in-Destination-clause-sound
returns-in_ok-position-in-Destination-clause-sound c =
    let taken = c.in_ok-position-in-Destination in
    let bits : SFits w32 taken.field-0 = search rules in
    c.load.ensures.sound (ap is_in_signed_range (to_z-of_z w32 _ bits) ∙ checked_fits is_in_signed_range (to_z w32 c.args.value) _ (sym c.position.ensures ∙ taken.was))

pub returns-in_ok-acceleration-in-Acceleration-clause-sound : goal.returns-in_ok-acceleration-in-Acceleration-clause-sound
returns-in_ok-acceleration-in-Acceleration-clause-sound c =
    let taken = c.in_ok-acceleration-in-Acceleration in
    let bits : SFits w32 taken.field-0 = search rules in
    let fits : ℤ → Bool = λ x. is_load_in_range (Acceleration x) in
    c.load-in-Acceleration.ensures.sound (ap fits (to_z-of_z w32 _ bits) ∙ checked_fits fits (to_z w32 c.args.value) _ (sym c.acceleration.ensures ∙ taken.was))
