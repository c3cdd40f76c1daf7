use Rattle.std.proofs.Common.{Bool, ◌&&◌, ◌∙◌, rules, tests}
use Rattle.std.proofs.lemmas.Iterator.{YieldsList-from_slice}
use Rattle.std.proofs.lemmas.Iterator.Search.{any_from_yields_List}
use Rattle.gate.specs.declared.events.Event.{Event}
use Rattle.gate.specs.Events.{event_bits, bit, place}
use Rattle.gate.proofs.Bits.{has_bit_in_is}
use Rattle.gate.proofs.events.Events.has_bit_in.Goals as goal

pub returns : goal.returns
returns c =
    any_from_yields_List (λ (p : Event × Bool). p.1 && bit c.args.mask (place p.0)) _ _ _ c.any.ensures.ran (YieldsList-from_slice (event_bits c.args.self.now) cc) (λ x b q k. search (rules, tests))
    ∙ has_bit_in_is c.args.mask c.args.self.now
