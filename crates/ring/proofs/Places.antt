-- Places, and what a reader at a place has still to read.
use Rattle.std.proofs.Common.{◌≡◌, ℕ, ◌+◌, ◌-◌, ◌%◌, ◌^◌, ◌<◌, ◌≤◌, inl, inr, List, [], ◌∷◌, ◌++◌, length, drop, sym, ap, ap₂, subst, ◌∙◌, arith, length-append, length-drop, append-nil, drop-drop, Option, Some, None, slice_get}
use Rattle.std.proofs.Math.Nat.{mod-add-mod, add-mod_right, mod-eq_of_lt}
use Rattle.std.proofs.lemmas.Bool.{cases_lt}
use Rattle.std.proofs.lemmas.Bool.Decides.{nat_tests}
use Rattle.std.specs.Option.{option_map}
use Rattle.std.proofs.lemmas.List.{append_assoc, nil_from_length, drop_all, drop_more, drop-append-le}
use Rattle.std.proofs.lemmas.Option.{slice_get_past, slice_get_within, get_or_from_slice_get}
use Rattle.ring.specs.Listing.{Listing, listing}
use Rattle.ring.specs.Places.{place_of, IsPlace, index_of, unread_from, read_at, with_more, without_oldest}

-- numbers that wrap at m
module _ (m : ℕ) where
  -- i records further than the oldest of k
  shift : (n k i : ℕ) → i ≤ k → k ≤ m → (n + (m - (k - i))) % m ≡ ((n + (m - (k - 0))) % m + i) % m
  shift n k i h fits = ap (λ z. z % m) (let e : n + (m - (k - i)) ≡ n + (m - (k - 0)) + i = omega arith in e) ∙ sym (mod-add-mod (n + (m - (k - 0))) m i)

  -- from there back to the oldest
  back : (b i : ℕ) → b < m → i < m → ((b + i) % m + (m - b)) % m ≡ i
  back b i hb hi = mod-add-mod (b + i) m (m - b) ∙ (ap (λ z. z % m) (let e : b + i + (m - b) ≡ i + m = omega arith in e) ∙ (add-mod_right i m ∙ mod-eq_of_lt hi))

  -- and from the oldest to where a place is
  forth : (b p : ℕ) → b < m → p < m → (b + (p + (m - b)) % m) % m ≡ p
  forth b p hb hp =
      ap (λ z. z % m) (let e : b + (p + (m - b)) % m ≡ (p + (m - b)) % m + b = omega arith in e)
      ∙ (mod-add-mod (p + (m - b)) m b ∙ (ap (λ z. z % m) (let e : p + (m - b) + b ≡ p + m = omega arith in e) ∙ (add-mod_right p m ∙ mod-eq_of_lt hp)))

  -- k before the end, where j more are listed
  listed_on : (n k j : ℕ) → k + j ≤ m → ((n + j) % m + (m - (k + j))) % m ≡ (n + (m - k)) % m
  listed_on n k j fits = mod-add-mod (n + j) m (m - (k + j)) ∙ ap (λ z. z % m) (let e : n + j + (m - (k + j)) ≡ n + (m - k) = omega arith in e)

module _ {X : Type 0} (l : Listing X) (fits : length l.records < 2 ^ 64) where
  place_below : (i : ℕ) → place_of l i < 2 ^ 64
  place_below i = omega arith

  -- a place of the list means its record
  index_of-place_of : (i : ℕ) → i ≤ length l.records → index_of l (place_of l i) ≡ i
  unfolding index_of
  index_of-place_of i h =
      let away : (place_of l i + (2 ^ 64 - place_of l 0)) % 2 ^ 64 ≡ i =
      ap (λ z. (z + (2 ^ 64 - place_of l 0)) % 2 ^ 64) (shift (2 ^ 64) l.listed (length l.records) i h (omega arith)) ∙ back (2 ^ 64) (place_of l 0) i (place_below 0) (omega arith) in
      rw away (grind (arith, nat_tests))

  -- any other means the oldest
  index_of-elsewhere : (p : ℕ) → p < 2 ^ 64 → (IsPlace l p → ⊥) → index_of l p ≡ 0
  unfolding index_of
  index_of-elsewhere p hp nowhere =
      let away = (p + (2 ^ 64 - place_of l 0)) % 2 ^ 64 in
      elim (cases_lt (length l.records) away) [
        | inr near ↦ absurd (nowhere (away, near, sym (shift (2 ^ 64) l.listed (length l.records) away near (omega arith) ∙ forth (2 ^ 64) (place_of l 0) p (place_below 0) hp)))
        | inl far ↦ grind (arith, nat_tests)
      ]

  pub unread_from-at_place : (p i : ℕ) → i ≤ length l.records → p ≡ place_of l i → unread_from l p ≡ drop i l.records
  unread_from-at_place p i h at = ap (λ q. unread_from l q) at ∙ ap (λ j. drop j l.records) (index_of-place_of i h)

  pub unread_from-elsewhere : (p : ℕ) → p < 2 ^ 64 → (IsPlace l p → ⊥) → unread_from l p ≡ l.records
  unread_from-elsewhere p hp nowhere = ap (λ j. drop j l.records) (index_of-elsewhere p hp nowhere)

-- what `index` and `read` compute
module _ {X : Type 0} (l : Listing X) (p i : ℕ) where
  pub index_near : i ≡ (p + (2 ^ 64 - place_of l 0)) % 2 ^ 64 → i ≤ length l.records → i ≡ index_of l p
  unfolding index_of
  index_near e near = rw (← e) (grind (arith, nat_tests))

  pub index_far : i ≡ (p + (2 ^ 64 - place_of l 0)) % 2 ^ 64 → length l.records < i → 0 ≡ index_of l p
  unfolding index_of
  index_far e far = rw (← e) (grind (arith, nat_tests))

  -- record i, or none, is what the place means
  read_by : (r : Option X) → i ≡ index_of l p → slice_get l.records i ≡ r → option_map (λ y. (y, place_of l (i + 1))) r ≡ read_at l p
  read_by r e at = ap (option_map (λ y. (y, place_of l (i + 1)))) (sym at) ∙ ap (λ j. option_map (λ y. (y, place_of l (j + 1))) (slice_get l.records j)) e

  pub read_none : i ≡ index_of l p → length l.records ≤ i → None ≡ read_at l p
  read_none e past = read_by None e (slice_get_past l.records i past)

  pub ends : i ≡ index_of l p → length l.records ≤ i → unread_from l p ≡ []
  ends e past = ap (λ j. drop j l.records) (sym e) ∙ drop_all i l.records past

  module _ (q : ℕ) (x : X) (e : i ≡ index_of l p) (at : slice_get l.records i ≡ Some x) (next : q ≡ place_of l (i + 1)) where
    pub read_some : Some (x, q) ≡ read_at l p
    read_some = ap (λ z. Some (x, z)) next ∙ read_by (Some x) e at

    pub goes_on : length l.records < 2 ^ 64 → unread_from l p ≡ x ∷ unread_from l q
    goes_on fits =
        let below = slice_get_within l.records i x at in
        ap (λ j. drop j l.records) (sym e)
        ∙ drop_more l.records i x below
        ∙ ap (λ y. y ∷ drop (i + 1) l.records) (get_or_from_slice_get l.records i x x at)
        ∙ ap (λ ys. x ∷ ys) (sym (unread_from-at_place l fits q (i + 1) (omega arith) next))

-- lists with none more, and with more twice
pub with_more-nil : {X : Type 0} (l : Listing X) → l.listed < 2 ^ 64 → with_more l [] ≡ l
with_more-nil l fits = ap₂ (λ ys n. listing ys n l.capacity) (append-nil l.records) (omega arith)

pub with_more-with_more : {X : Type 0} (l : Listing X) (xs ys : List X) → with_more (with_more l xs) ys ≡ with_more l (xs ++ ys)
with_more-with_more l xs ys =
    ap₂ (λ zs n. listing zs n l.capacity)
    (append_assoc l.records xs ys)
    (mod-add-mod (l.listed + length xs) (2 ^ 64) (length ys) ∙ ap (λ n. n % 2 ^ 64) (let s : l.listed + length xs + length ys ≡ l.listed + length (xs ++ ys) = omega (arith, length-append xs ys) in s))

-- Before and after so many of the oldest were taken out and more were listed: each record that stays keeps its place, and a reader there
-- has before it what it had, and then what was listed.
module _ {X : Type 0} (e : Listing X) (gone : ℕ) (more : List X) where
  abbrev pub later : Listing X
  later = with_more (without_oldest e gone) more

  length-later : length later.records ≡ length e.records - gone + length more
  length-later = length-append (drop gone e.records) more ∙ ap (λ k. k + length more) (length-drop gone e.records)

  module _ (fits : length later.records < 2 ^ 64) (i : ℕ) (stays : gone ≤ i) (within : i ≤ length e.records) where
    place_of-later : place_of later (i - gone) ≡ place_of e i
    place_of-later =
        ap (λ k. ((e.listed + length more) % 2 ^ 64 + (2 ^ 64 - k)) % 2 ^ 64) (let s : length later.records - (i - gone) ≡ length e.records - i + length more = omega (arith, length-later) in s)
        ∙ listed_on (2 ^ 64) e.listed (length e.records - i) (length more) (omega (arith, length-later))

    unread_from-later : unread_from later (place_of e i) ≡ drop i e.records ++ more
    unread_from-later =
        unread_from-at_place later fits (place_of e i) (i - gone) (omega (arith, length-later)) (sym place_of-later)
        ∙ drop-append-le (i - gone) (drop gone e.records) more (rw length-drop (omega arith))
        ∙ ap (λ ys. ys ++ more) (drop-drop (i - gone) gone e.records ∙ ap (λ j. drop j e.records) (let s : gone + (i - gone) ≡ i = omega arith in s))

-- the same where none was taken out
module _ {X : Type 0} (l : Listing X) (more : List X) (new : Listing X) (is : new ≡ with_more l more) (fits : length new.records < 2 ^ 64) where
  more_fits : length (later l 0 more).records < 2 ^ 64
  more_fits = subst (λ w. length w.records < 2 ^ 64) is fits

  pub place_of-with_more : (i : ℕ) → i ≤ length l.records → place_of new i ≡ place_of l i
  place_of-with_more i within = ap₂ place_of is (let s : i ≡ i - 0 = omega arith in s) ∙ place_of-later l 0 more more_fits i (omega arith) within

  pub unread_from-with_more : (i : ℕ) → i ≤ length l.records → unread_from new (place_of l i) ≡ drop i l.records ++ more
  unread_from-with_more i within = ap (λ w. unread_from w (place_of l i)) is ∙ unread_from-later l 0 more more_fits i (omega arith) within

-- and where the oldest was taken out alone
module _ {X : Type 0} (l : Listing X) (fits : length l.records < 2 ^ 64) (listed_fits : l.listed < 2 ^ 64) (rest : Listing X) (is : rest ≡ without_oldest l 1) where
  is_later : rest ≡ later l 1 []
  is_later = is ∙ sym (with_more-nil (without_oldest l 1) listed_fits)

  later_fits : length (later l 1 []).records < 2 ^ 64
  later_fits = omega (arith, length-later l 1 [])

  length-rest : length rest.records ≡ length l.records - 1
  length-rest = ap (λ w. length w.records) is ∙ length-drop 1 l.records

  pub place_of-rest : (i : ℕ) → i < length l.records → place_of rest i ≡ place_of l (i + 1)
  place_of-rest i h =
      ap₂ place_of is_later (let s : i ≡ i + 1 - 1 = omega arith in s)
      ∙ place_of-later l 1 [] later_fits (i + 1) (omega arith) (omega arith)

  pub unread_from-rest : (i : ℕ) → i < length l.records → unread_from rest (place_of l (i + 1)) ≡ drop (i + 1) l.records
  unread_from-rest i h =
      ap (λ w. unread_from w (place_of l (i + 1))) is_later
      ∙ unread_from-later l 1 [] later_fits (i + 1) (omega arith) (omega arith)
      ∙ append-nil (drop (i + 1) l.records)

  -- the place of the record that went is no place any more
  no_place : 0 < length l.records → IsPlace rest (place_of l 0) → ⊥
  no_place some (i, h, e) =
      let within : i < length l.records = omega (arith, length-rest) in
      let far : 0 ≡ i + 1 = sym (index_of-place_of l fits 0 (omega arith)) ∙ (ap (index_of l) (e ∙ place_of-rest i within) ∙ index_of-place_of l fits (i + 1) (omega arith)) in
      omega arith

  pub unread_from-rest_passed : unread_from rest (place_of l 0) ≡ rest.records
  unread_from-rest_passed = elim (cases_lt 0 (length l.records)) [
    | inl some ↦ unread_from-elsewhere rest (omega (arith, length-rest)) (place_of l 0) (place_below l fits 0) (no_place some)
    | inr none ↦ let long = length-rest in drop_all _ rest.records (omega arith) ∙ sym (nil_from_length rest.records (omega arith))
  ]

-- what `read_on` promises of an earlier list
module _ {X : Type 0} (l : Listing X) (fits : length l.records < 2 ^ 64) (p : ℕ) where
  pub unread_from-carried : (e : Listing X) (i gone : ℕ) (more : List X) → gone ≤ i → i ≤ length e.records → l ≡ later e gone more → p ≡ place_of e i → unread_from l p ≡ drop i e.records ++ more
  unread_from-carried e i gone more stays within is at =
      let later_fits : length (later e gone more).records < 2 ^ 64 = subst (λ w. length w.records < 2 ^ 64) is fits in
      ap₂ unread_from is at ∙ unread_from-later e gone more later_fits i stays within
