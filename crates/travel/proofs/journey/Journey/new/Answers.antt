use Rattle.std.proofs.Common.{◌≡◌, Bool, true, false, ℤ, ap, ◌∙◌, w32, SFits, rules}
use Rattle.std.specs.Result.{is_ok}
use Rattle.gate.specs.declared.load.Load.TheVariants as load
use Rattle.gate.specs.Gates.{latch}
use Rattle.gate.specs.Loads.{is_load_in_range, with_load}
use Rattle.travel.specs.Plans.{has_good_acceleration, has_good_destination, has_good_power, has_good_velocity}
use Rattle.travel.proofs.Takes.{goes_on, fits_bits, sends, speeds, hastens, powers}
use Rattle.travel.proofs.journey.Journey.new.Goals as goal

abbrev to_destination : ℤ → Bool
to_destination z = is_load_in_range (load.Destination z)

abbrev to_acceleration : ℤ → Bool
to_acceleration z = is_load_in_range (load.Acceleration z)

pub returns-in_err-or-3 : goal.returns-in_err-or-3
returns-in_err-or-3 c =
    let p = c.args.plan in
    let d : SFits w32 p.destination = search rules in
    let a : SFits w32 p.acceleration = search rules in
    let first : has_good_destination p ≡ true = fits_bits to_destination _ _ d c.cast_unsigned.ensures ∙ (goes_on _ _ _ _ c.run_long.ensures.answer c.or.ensures ∙ ap is_ok c.in_ok-or.was) in
    let third : has_good_acceleration p ≡ false = fits_bits to_acceleration _ _ a c.cast_unsigned-2.ensures ∙ (goes_on _ _ _ _ c.run_long-3.ensures.answer c.or-3.ensures ∙ ap is_ok c.in_err-or-3.was) in
    search rules

pub returns-in_err-or-4 : goal.returns-in_err-or-4
returns-in_err-or-4 c =
    let p = c.args.plan in
    let d : SFits w32 p.destination = search rules in
    let a : SFits w32 p.acceleration = search rules in
    let first : has_good_destination p ≡ true = fits_bits to_destination _ _ d c.cast_unsigned.ensures ∙ (goes_on _ _ _ _ c.run_long.ensures.answer c.or.ensures ∙ ap is_ok c.in_ok-or.was) in
    let second : has_good_velocity p ≡ true = goes_on _ _ _ _ c.run_long-2.ensures.answer c.or-2.ensures ∙ ap is_ok c.in_ok-or-2.was in
    let third : has_good_acceleration p ≡ true = fits_bits to_acceleration _ _ a c.cast_unsigned-2.ensures ∙ (goes_on _ _ _ _ c.run_long-3.ensures.answer c.or-3.ensures ∙ ap is_ok c.in_ok-or-3.was) in
    let fourth : has_good_power p ≡ false = goes_on _ _ _ _ c.run_word.ensures.answer c.or-4.ensures ∙ ap is_ok c.in_err-or-4.was in
    search rules

pub invariant_of-result : goal.invariant_of-result
invariant_of-result c =
    record { sound = c.run.ensures.sound (c.run_word.ensures.sound (c.run_long-3.ensures.sound (c.run_long-2.ensures.sound (c.run_long.ensures.sound c.fresh-gate.ensures.sound)))) }

pub returns : goal.returns
returns c =
    let p = c.args.plan in
    let d : SFits w32 p.destination = search rules in
    let a : SFits w32 p.acceleration = search rules in
    let first = goes_on _ _ _ _ c.run_long.ensures.answer c.or.ensures ∙ ap is_ok c.in_ok-or.was in
    let second = goes_on _ _ _ _ c.run_long-2.ensures.answer c.or-2.ensures ∙ ap is_ok c.in_ok-or-2.was in
    let third = goes_on _ _ _ _ c.run_long-3.ensures.answer c.or-3.ensures ∙ ap is_ok c.in_ok-or-3.was in
    let fourth = goes_on _ _ _ _ c.run_word.ensures.answer c.or-4.ensures ∙ ap is_ok c.in_ok-or-4.was in
    let one = sends _ _ _ _ d c.cast_unsigned.ensures c.run_long.ensures.is first ∙ ap (with_load (load.Destination p.destination)) c.fresh-gate.ensures.is in
    let two = speeds _ _ _ c.run_long-2.ensures.is second ∙ ap (with_load (load.Velocity p.velocity)) one in
    let three = hastens _ _ _ _ a c.cast_unsigned-2.ensures c.run_long-3.ensures.is third ∙ ap (with_load (load.Acceleration p.acceleration)) two in
    let four = powers _ _ _ c.run_word.ensures.is fourth ∙ ap (with_load (load.Power p.power)) three in
    record {
      destination = fits_bits to_destination _ _ d c.cast_unsigned.ensures ∙ first;
      velocity = second;
      acceleration = fits_bits to_acceleration _ _ a c.cast_unsigned-2.ensures ∙ third;
      power = fourth;
      is = c.run.ensures.is ∙ ap latch four;
    }
