-- A gate that is followed for one more cycle.
use Rattle.std.proofs.Common.{◌≡◌, ℕ, ◌+◌, ◌<◌, Bool, true, false, not, sym, ap, ◌∙◌, add-one, arith}
use borrow.Author.Count.{below_more}
use Rattle.gate.specs.declared.gate.Gate.{Gate}
use Rattle.gate.specs.Cycles.{is_at_rest, cycle}
use Rattle.gate.specs.Inputs.{still_inputs}
use Rattle.travel.specs.Runs.{gate_after_cycles, TravelsFor}

pub TravelsFor-more : (n : ℕ) (g h i : Gate) → TravelsFor n g h × (0 < n → is_at_rest h ≡ false) → n < 10000 → i ≡ cycle still_inputs h
    → TravelsFor (n + 1) g i
TravelsFor-more n g h i r few e = record {
  within = omega arith;
  is = rw add-one (e ∙ ap (cycle still_inputs) r.0.is);
  moving = below_more (λ k. 0 < k → is_at_rest (gate_after_cycles k g) ≡ false) n r.0.moving (λ some. ap is_at_rest (sym r.0.is) ∙ r.1 some);
}

-- what a row says of the gate
pub rests : (rest moving stood : Bool) → moving ≡ not rest → not moving ≡ stood → rest ≡ stood
rests true moving stood e h = sym (ap not e) ∙ h
rests false moving stood e h = sym (ap not e) ∙ h
