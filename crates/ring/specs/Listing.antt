-- What a contract sees of a ring.
use Rattle.std.specs.Prelude.{ℕ, List, refl}
use Rattle.std.specs.Coded.{Coded, code_by, coded×, coded_list, coded_ℕ}

-- the records that are stored, the oldest first; how many were ever listed, modulo 2 ^ 64; and how many can be stored
pub record Listing (X : Type 0) : Type 0 where
  pub records : List X
  pub listed : ℕ
  pub capacity : ℕ

module _ {X : Type 0} where
  abbrev pub listing : List X → ℕ → ℕ → Listing X
  listing xs n c = record { records = xs; listed = n; capacity = c }

  abbrev pub listing_code : Coded X → Coded (Listing X)
  listing_code c =
      code_by (List X × (ℕ × ℕ)) (coded× (coded_list c) (coded× coded_ℕ coded_ℕ))
      (λ l. (l.records, (l.listed, l.capacity)))
      (λ p. listing p.0 p.1.0 p.1.1)
      (λ _. refl)
