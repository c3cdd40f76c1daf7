-- Numbers as a script writes them.
use Rattle.std.specs.Prelude.{◌≡◌, ℕ, ◌*◌, ◌^◌, ◌<◌, cond, ◌⊎◌, List, ◌++◌, ℤ, pos, ◌+ℤ◌, neg_ℤ, ◌≤ℤ◌, ◌<ℤ◌, Some, None, codes, Option, FitsSigned, ◌≢◌, int_lt}
use Rattle.std.specs.Int.{w128}
use Rattle.std.specs.Str.Parse.{IsNumeral, digits_value, without_leading_sign, signed_digits_value}

abbrev pub IsHex : List ℕ → Type 0
IsHex ds = IsNumeral 16 ds × (digits_value 16 ds < 2 ^ 64)

abbrev pub IsDecimal : List ℕ → Type 0
IsDecimal word = IsNumeral 10 (without_leading_sign word) × FitsSigned w128 (signed_digits_value 10 word)

-- the number that hexadecimal digits write, or none, where they are none
abbrev pub WritesHex : List ℕ → Option ℤ → Type 0
WritesHex ds (Some z) = IsHex ds × (z ≡ pos (digits_value 16 ds))
WritesHex ds None = IsHex ds → ⊥

-- the number that a decimal word writes, after a sign or not
abbrev pub WritesDecimal : List ℕ → Option ℤ → Type 0
WritesDecimal word (Some z) = IsDecimal word × (z ≡ signed_digits_value 10 word)
WritesDecimal word None = IsDecimal word → ⊥

-- a word that begins with 0x is hexadecimal, any other decimal
abbrev pub WritesNumber : List ℕ → Option ℤ → Type 0
WritesNumber word r =
    ((ds : List ℕ) × (word ≡ codes "0x" ++ ds) × WritesHex ds r) ⊎ (((ds : List ℕ) → word ≢ codes "0x" ++ ds) × WritesDecimal word r)

-- a signed or an unsigned number of a width with 2 × half values
pub record IsInWidth (half : ℕ) (z : ℤ) : Type 0 where
  pub low : neg_ℤ (pos half) ≤ℤ z
  pub high : z <ℤ pos (2 * half)

-- its bits, as an unsigned number
abbrev pub bits : ℕ → ℤ → ℤ
bits half z = cond (int_lt z (pos 0)) (z +ℤ pos (2 * half)) z

abbrev pub HasBits : ℕ → ℤ → Option ℕ → Type 0
HasBits half z (Some n) = IsInWidth half z × (pos n ≡ bits half z)
HasBits half z None = IsInWidth half z → ⊥
