-- What a text writes as a number, and what a type takes of it.
use Rattle.std.proofs.Common.{rules, arith, ◌≡◌, ℕ, ◌^◌, ◌<◌, List, ℤ, pos, negsuc, ◌≤ℤ◌, ◌<ℤ◌, Ok, Err, Result, Some, None, Option, refl, subst, sym, unsigned_abs, FitsSigned}
use Rattle.std.proofs.lemmas.Int.{ints}
use Rattle.std.specs.Int.{w16}
use Rattle.std.specs.Result.{OkIff, result_ok}
use Rattle.script.specs.Numbers.{WritesNumber}
use Rattle.script.specs.Lines.{WritesFitting, WritesUnsigned, Finds}

-- a text writes one number, or none
pub number_is_one : (text : List ℕ) (r s : Option ℤ) → WritesNumber text r → WritesNumber text s → r ≡ s
number_is_one text (Some x) (Some y) p q = search rules
number_is_one text (Some x) None p q = search rules
number_is_one text None (Some y) p q = search rules
number_is_one text None None p q = refl

-- a text that writes a number, and what a type gives for it
pub fitted : {N E : Type 0} (gives : ℤ → Result N E → Type 0) (text : List ℕ) (z : ℤ) (r : Result N E) → WritesNumber text (Some z)
    → gives z r → WritesFitting gives text (result_ok r)
fitted gives text z (Ok n) p q = (z, p, q)
fitted gives text z (Err e) p q = λ y w. (e, subst (λ (v : ℤ). gives v (Err e)) (some_is_one z y (number_is_one text (Some z) (Some y) p w)) q)
  where
    some_is_one : (x y : ℤ) → Some x ≡ Some y → x ≡ y
    some_is_one x y e = cc

-- what an unsigned type takes
pub unsigned_fitted : (E : Type 0) (k : ℕ) (text : List ℕ) (r : Option ℕ)
    → WritesFitting {E = E} (λ z g. OkIff g ((pos 0 ≤ℤ z) × (z <ℤ pos (2 ^ k))) (unsigned_abs z)) text r
    → Finds (WritesUnsigned k text) r
unsigned_fitted E k text (Some n) (pos m, p, q) =
    (subst (λ (v : ℕ). v < 2 ^ k) (sym q.1) (omega (arith, ints, q.0.1)), subst (λ (v : ℕ). WritesNumber text (Some (pos v))) (sym q.1) p)
unsigned_fitted E k text (Some n) (negsuc m, p, q) = absurd (omega (arith, ints, q.0.0))
unsigned_fitted E k text None none = λ n v. (none (pos n) v.1).1 (omega (arith, ints, v.0), omega (arith, ints, v.0))

-- a signed type of 16 bits
pub signed_fitted : (E : Type 0) (text : List ℕ) (z : ℤ) → WritesFitting {E = E} (λ z g. OkIff g (FitsSigned w16 z) z) text None
    → FitsSigned w16 z → WritesNumber text (Some z) → ⊥
signed_fitted E text z none l p = (none z p).1 l
