-- How a gate's two phases are wired: the board's phase A negated or not, and then the two exchanged or not.
use Rattle.std.specs.Prelude.{cond, ℤ, neg_ℤ}
use Rattle.stage.specs.declared.wiring.GateWiring.{GateWiring}
use Rattle.stage.specs.declared.wiring.Wiring.{Wiring}
use Rattle.stage.specs.Pairs.{Pair, Pairs}

abbrev pub with_polarity : GateWiring → ℤ → ℤ
with_polarity w a = cond w.negated (neg_ℤ a) a

-- the pair below, with the wiring undone
abbrev pub unwired_pair : GateWiring → Pair → Pair
unwired_pair w p = cond w.exchanged (with_polarity w p.1, p.0) (with_polarity w p.0, p.1)

abbrev pub unwired_pairs : GateWiring → GateWiring → Pairs → Pairs
unwired_pairs one two p = record { one = unwired_pair one p.one; two = unwired_pair two p.two }

-- how gate 1 and gate 2 are wired, and the stage below
abbrev pub wires_of : {S : Type 0} → Wiring S → GateWiring × GateWiring
wires_of w = (w.one, w.two)

abbrev pub stage_below : {S : Type 0} → Wiring S → S
stage_below w = w.below

-- what a wiring shows, by what the stage below it shows
abbrev pub wiring_pairs : {S : Type 0} → (S → Pairs) → Wiring S → Pairs
wiring_pairs pairs w = unwired_pairs w.one w.two (pairs w.below)
