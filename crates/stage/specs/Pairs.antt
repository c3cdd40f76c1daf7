-- The numbers that a stage stands for: a pair of phases, A and B, for each of the gates 1 and 2.
use Rattle.std.specs.Prelude.{ℕ, ◌≤◌, Bool, cond, ◌||◌, ℤ, pos, ◌==◌, unsigned_abs}
use Rattle.stage.specs.Quantize.{quantize}

abbrev pub Pair : Type 0
Pair = ℤ × ℤ

pub record Pairs : Type 0 where
  pub one : Pair
  pub two : Pair

abbrev pub zero_pair : Pair
zero_pair = (pos 0, pos 0)

-- both gates at 0, 0
abbrev pub zero_pairs : Pairs
zero_pairs = record { one = zero_pair; two = zero_pair }

-- whether a number names a gate
abbrev pub is_gate : ℕ → Bool
is_gate gate = gate == 1 || gate == 2

-- the pair of a gate; a number that names none has 0, 0
abbrev pub pair_of : Pairs → ℕ → Pair
pair_of p gate = cond (gate == 1) p.one (cond (gate == 2) p.two zero_pair)

-- what a stage of a step keeps of a pair
abbrev pub quantized_pair : ℕ → Pair → Pair
quantized_pair step p = (quantize step p.0, quantize step p.1)

-- the pairs after a show: the gate's own is quantized to the step, and the other stays
abbrev pub pairs_after_show : ℕ → Pairs → ℕ → ℤ → ℤ → Pairs
pairs_after_show step p gate a b =
    record {
      one = cond (gate == 1) (quantized_pair step (a, b)) p.one;
      two = cond (gate == 2) (quantized_pair step (a, b)) p.two;
    }

-- no make holds more than this, so a number of a pair can be negated
pub record IsBounded (p : Pair) : Type 0 where
  pub first : unsigned_abs p.0 ≤ 65536
  pub second : unsigned_abs p.1 ≤ 65536
