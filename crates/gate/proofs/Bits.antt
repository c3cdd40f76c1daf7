-- The event bits, one after the other.
use Rattle.std.proofs.Common.{◌≡◌, ℕ, ◌^◌, ◌<◌, ◌≤◌, Bool, true, false, ◌&&◌, ◌||◌, refl, arith}
use Rattle.std.specs.List.{list_any, sum_by}
use Rattle.gate.specs.declared.events.Event.{Event}
use Rattle.gate.specs.declared.events.Events.{Events}
use Rattle.gate.specs.Events.{event_bits, bit, weight, place, events_word, has_bit_in}

or_false : (a : Bool) → (a || false) ≡ a
or_false true = refl
or_false false = refl

pub has_bit_in_is : (mask : ℕ) (e : Events) → list_any (λ (p : Event × Bool). p.1 && bit mask (place p.0)) (event_bits e) ≡ has_bit_in mask e
has_bit_in_is mask e = rw or_false

-- what a bit adds to the word
abbrev pub at_place : Event × Bool → ℕ
at_place p = weight p.1 (place p.0)

pub word_is : (e : Events) → sum_by at_place (event_bits e) ≡ events_word e
word_is e = omega arith

weight_le : (b : Bool) (n : ℕ) → weight b n ≤ 2 ^ n
weight_le true n = omega arith
weight_le false n = omega arith

pub word_fits : (e : Events) → sum_by at_place (event_bits e) < 65536
word_fits e = omega (arith, weight_le e.complete 0, weight_le e.wrapped 1, weight_le e.breakpoint_reached 2, weight_le e.positive 5, weight_le e.negative 6, weight_le e.error 7)
