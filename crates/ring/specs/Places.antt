-- The places of a list's records, and what a reader at a place has before it.
use Rattle.std.specs.Prelude.{◌≡◌, ℕ, ◌+◌, ◌-◌, ◌%◌, ◌^◌, ◌≤◌, List, ◌++◌, length, drop, slice_get, Option, nat_le, if◌then◌else◌}
use Rattle.std.specs.Option.{option_map}
use Rattle.ring.specs.Listing.{Listing, listing}

module _ {X : Type 0} where
  -- the place of record i: how many records were listed before it, modulo 2 ^ 64; that of i = length l.records is the end
  abbrev pub place_of : Listing X → ℕ → ℕ
  place_of l i = (l.listed + (2 ^ 64 - (length l.records - i))) % 2 ^ 64

  -- a stored record's place, or the end
  abbrev pub IsPlace : Listing X → ℕ → Type 0
  IsPlace l p = (i : ℕ) × (i ≤ length l.records) × (p ≡ place_of l i)

  -- how many stored records stand before the one that a place means: none, where it is neither a stored record's nor the end
  unfoldable pub index_of : Listing X → ℕ → ℕ
  index_of l p =
      let away = (p + (2 ^ 64 - place_of l 0)) % 2 ^ 64 in
      (if nat_le away (length l.records) then away else 0)

  -- what a reader at a place has still to read: the records from there to the newest
  abbrev pub unread_from : Listing X → ℕ → List X
  unread_from l p = drop (index_of l p) l.records

  -- the record at a place with the next place, or nothing at the end
  abbrev pub read_at : Listing X → ℕ → Option (X × ℕ)
  read_at l p = option_map (λ x. (x, place_of l (index_of l p + 1))) (slice_get l.records (index_of l p))

  -- a list with more records at its end
  abbrev pub with_more : Listing X → List X → Listing X
  with_more l more = listing (l.records ++ more) ((l.listed + length more) % 2 ^ 64) l.capacity

  -- a list without so many of its oldest records
  abbrev pub without_oldest : Listing X → ℕ → Listing X
  without_oldest l n = record l { records = drop n l.records }
