use Rattle.std.proofs.Common.{◌≡◌, ℕ, zero, suc, ◌+◌, ◌<◌, cond, nat_eq, not, bit_and, refl, arith, rules}
use Rattle.replay.proofs.entry.inputs.Goals as goal

-- a number below 8 is the sum of its bits
three_bits : (n : ℕ) → n < 8 → cond (not (nat_eq (bit_and n 1) 0)) 1 0 + cond (not (nat_eq (bit_and n 2) 0)) 2 0 + cond (not (nat_eq (bit_and n 4) 0)) 4 0 ≡ n
three_bits zero h = refl
three_bits (suc zero) h = refl
three_bits (suc (suc zero)) h = refl
three_bits (suc (suc (suc zero))) h = refl
three_bits (suc (suc (suc (suc zero)))) h = refl
three_bits (suc (suc (suc (suc (suc zero))))) h = refl
three_bits (suc (suc (suc (suc (suc (suc zero)))))) h = refl
three_bits (suc (suc (suc (suc (suc (suc (suc zero))))))) h = refl
three_bits (suc (suc (suc (suc (suc (suc (suc (suc n)))))))) h = omega arith

pub returns : goal.returns
returns c = search (rules, three_bits c.args.switches)
