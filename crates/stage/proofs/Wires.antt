-- What is shown through a wiring is seen above it.
use Rattle.std.proofs.Common.{◌≡◌, ℕ, Bool, true, false, cond, eqb, ℤ, refl, arith}
use Rattle.std.proofs.lemmas.Bool.Decides.{nat_tests}
use Rattle.stage.specs.Pairs.{Pair, Pairs, quantized_pair, pairs_after_show}
use Rattle.stage.specs.Wiring.{unwired_pair, unwired_pairs}
use Rattle.stage.specs.declared.wiring.GateWiring.{GateWiring}

-- one gate: its pair is undone to what was asked for, or stays
seen_one : (w : GateWiring) (t : Bool) (below asked old : Pair) → (t ≡ true → unwired_pair w below ≡ asked)
    → unwired_pair w (cond t below old) ≡ cond t asked (unwired_pair w old)
seen_one w true below asked old h = h refl
seen_one w false below asked old h = refl

module _ (step gate : ℕ) (one two wire : GateWiring) (p q : Pairs) (a b x y : ℤ) where
  -- both gates
  pub seen : (gate ≡ 1 → wire ≡ one) → (gate ≡ 2 → wire ≡ two) → unwired_pair wire (quantized_pair step (x, y)) ≡ quantized_pair step (a, b)
      → q ≡ pairs_after_show step p gate x y → unwired_pairs one two q ≡ pairs_after_show step (unwired_pairs one two p) gate a b
  seen v w e h =
      let below = quantized_pair step (x, y) in
      let asked = quantized_pair step (a, b) in
      let first : eqb gate 1 ≡ true → unwired_pair one below ≡ asked = λ t. grind (arith, nat_tests) in
      let second : eqb gate 2 ≡ true → unwired_pair two below ≡ asked = λ t. grind (arith, nat_tests) in
      let f = seen_one one (eqb gate 1) below asked p.one first in
      let s = seen_one two (eqb gate 2) below asked p.two second in
      cc (f, s)
