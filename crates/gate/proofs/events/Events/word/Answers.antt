use Rattle.std.proofs.Common.{◌∙◌, rules, tests}
use Rattle.std.proofs.lemmas.Iterator.{YieldsList-from_slice, YieldsList-from_map}
use Rattle.std.proofs.lemmas.Iterator.Consumers.{sum_by_from_yields_List, fits_by_from_yields_list}
use Rattle.gate.specs.Events.{event_bits}
use Rattle.gate.proofs.Bits.{at_place, word_is, word_fits}
use Rattle.gate.proofs.events.Events.word.Goals as goal

pub sum-requires-clause-fits : goal.sum-requires-clause-fits
sum-requires-clause-fits c =
    let bits = event_bits c.args.self.now in
    fits_by_from_yields_list at_place bits c.map.result _ (YieldsList-from_map _ at_place (YieldsList-from_slice bits cc) c.map.ensures.closure (λ x r q k. search (rules, tests))) (word_fits c.args.self.now)

pub returns : goal.returns
returns c =
    let bits = event_bits c.args.self.now in
    sum_by_from_yields_List at_place bits c.map.result _ c.sum.ensures.ran (YieldsList-from_map _ at_place (YieldsList-from_slice bits cc) c.map.ensures.closure (λ x r q k. search (rules, tests)))
    ∙ word_is c.args.self.now
