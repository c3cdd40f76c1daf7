-- What a contract sees of a ring's fields.
use Rattle.std.proofs.Common.{◌≡◌, ℕ, ◌+◌, ◌-◌, ◌%◌, ◌^◌, ◌<◌, ◌≤◌, List, [], ◌∷◌, ◌++◌, length, drop, set, sym, refl, ap, ◌∙◌, arith, length-set, Some, slice_get, get_or}
use Rattle.std.proofs.lemmas.List.{nil_from_length}
use Rattle.std.proofs.lemmas.Option.{slice_get-get_or}
use Rattle.ring.specs.Listing.{Listing, listing}
use Rattle.ring.specs.Places.{with_more, without_oldest}
use Rattle.ring.specs.Slots.{slot_of, window}
use Rattle.ring.proofs.Slots.{length-window, get_or-window, window_after_push, window_after_remove}

pub record Seen {X : Type 0} (v : Listing X) (n count : ℕ) (xs : List X) : Type 0 where
  pub len : length v.records ≡ n
  pub listed : v.listed ≡ count
  pub capacity : v.capacity ≡ length xs

same : {X : Type 0} (a b : List X) (m n c d : ℕ) → a ≡ b → m ≡ n → c ≡ d → listing a m c ≡ listing b n d
same a b m n c d p q r = cc

module _ {X : Type 0} (v : Listing X) (f n count : ℕ) (xs : List X) (is : listing (window f n xs) count (length xs) ≡ v) (within : (f ≤ length xs) × (n ≤ length xs)) where
  pub seen : Seen v n count xs
  seen =
      record {
        len = ap (λ w. length w.records) (sym is) ∙ length-window f n xs within.0 within.1;
        listed = ap (λ w. w.listed) (sym is);
        capacity = ap (λ w. w.capacity) (sym is);
      }

  pub stored : (i k : ℕ) (x : X) → i < n → k ≡ slot_of (length xs) f i → slice_get v.records i ≡ Some (get_or xs k x)
  stored i k x h e =
      let long = length-window f n xs within.0 within.1 in
      ap (λ w. slice_get w.records i) (sym is)
      ∙ slice_get-get_or (window f n xs) i x (omega arith)
      ∙ ap Some (get_or-window f n xs within.0 within.1 i x h ∙ ap (λ j. get_or xs j x) (sym e))

  pub after_push : (k : ℕ) (x : X) → n < length xs → k ≡ slot_of (length xs) f n → listing (window f (n + 1) (set xs k x)) ((count + 1) % 2 ^ 64) (length (set xs k x)) ≡ with_more v (x ∷ [])
  after_push k x room e =
      same _ _ _ _ _ _
      (ap (λ j. window f (n + 1) (set xs j x)) e ∙ window_after_push f n xs within.0 x room ∙ ap (λ w. w.records ++ x ∷ []) is)
      (ap (λ w. (w.listed + 1) % 2 ^ 64) is)
      (length-set xs k x ∙ ap (λ w. w.capacity) is)

  pub after_remove : (k : ℕ) → 0 < n → k ≡ slot_of (length xs) f 1 → listing (window k (n - 1) xs) count (length xs) ≡ without_oldest v 1
  after_remove k some e =
      same _ _ _ _ _ _
      (ap (λ j. window j (n - 1) xs) e ∙ window_after_remove f n xs within.0 some within.1 ∙ ap (λ w. drop 1 w.records) is)
      (ap (λ w. w.listed) is)
      (ap (λ w. w.capacity) is)

pub remove_empty : {X : Type 0} (v : Listing X) → length v.records ≡ 0 → v ≡ without_oldest v 1
remove_empty v e =
    let none : v.records ≡ [] = nil_from_length v.records e in
    same v.records (drop 1 v.records) v.listed v.listed v.capacity v.capacity (none ∙ sym (ap (drop 1) none)) refl refl
