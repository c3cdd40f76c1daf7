-- The slots that hold a ring's records, in the ring's order.
use Rattle.std.proofs.Common.{◌≡◌, ℕ, ◌+◌, ◌-◌, ◌<◌, ◌≤◌, ◌≢◌, List, [], ◌∷◌, ◌++◌, length, get_or, drop, set, sym, ap, ◌∙◌, inl, inr, arith, length-append, length-drop, length-set, length-take-le, get_or-drop, get_or-take, get_or-set_same, get_or-set_other}
use Rattle.std.proofs.lemmas.List.{same_lists, get_or_append_left, get_or-append_right, get_or_push, length_push}
use Rattle.std.proofs.lemmas.Bool.{cases_lt}
use Rattle.std.proofs.lemmas.Bool.Decides.{nat_tests}
use Rattle.ring.specs.Slots.{slot_of, window}

-- the two ways that a slot can lie
slot_before : (n f i : ℕ) → f + i < n → slot_of n f i ≡ f + i
slot_before n f i h = grind (arith, nat_tests)

slot_past : (n f i : ℕ) → n ≤ f + i → slot_of n f i ≡ f + i - n
slot_past n f i h = grind (arith, nat_tests)

slot_within : (n f i : ℕ) → f ≤ n → i < n → slot_of n f i < n
slot_within n f i hf hi = grind (arith, nat_tests)

slot_within_or_end : (n f i : ℕ) → f ≤ n → i ≤ n → slot_of n f i ≤ n
slot_within_or_end n f i hf hi = grind (arith, nat_tests)

apart : (n f i j : ℕ) → f ≤ n → i < n → j < n → i ≢ j → slot_of n f i ≢ slot_of n f j
apart n f i j hf hi hj ne e = grind (arith, nat_tests)

next : (n f i : ℕ) → f ≤ n → i + 1 < n → slot_of n (slot_of n f 1) i ≡ slot_of n f (1 + i)
next n f i hf hi = grind (arith, nat_tests)

module _ {X : Type 0} (f n : ℕ) (xs : List X) (first_in : f ≤ length xs) (len_in : n ≤ length xs) where
  pub length-window : length (window f n xs) ≡ n
  unfolding window
  length-window = length-take-le n _ (simp (length-append, length-drop) (omega arith))

  pub get_or-window : (i : ℕ) (d : X) → i < n → get_or (window f n xs) i d ≡ get_or xs (slot_of (length xs) f i) d
  unfolding window
  get_or-window i d h =
      let tail = length-drop f xs in
      get_or-take n _ i d h ∙ elim (cases_lt (f + i) (length xs)) [
        | inl low ↦ get_or_append_left _ _ d i (omega arith) ∙ get_or-drop f xs i d ∙ ap (λ k. get_or xs k d) (sym (slot_before (length xs) f i low))
        | inr high ↦
            get_or-append_right _ _ (length xs - f) i d tail (omega arith)
            ∙ ap (λ k. get_or xs k d) (let e : i - (length xs - f) ≡ f + i - length xs = omega arith in e ∙ sym (slot_past (length xs) f i high))
      ]

module _ {X : Type 0} (f n : ℕ) (xs : List X) (first_in : f ≤ length xs) where
  -- record i after a write behind the newest record
  get_or-pushed : (x : X) → n < length xs → (i : ℕ) (d : X) → i < n + 1 → get_or (set xs (slot_of (length xs) f n) x) (slot_of (length xs) f i) d ≡ get_or (window f n xs ++ x ∷ []) i d
  get_or-pushed x room i d h =
      let long = length-window f n xs first_in (omega arith) in
      elim (cases_lt i n) [
        | inl old ↦
            get_or-set_other xs _ _ x d (apart (length xs) f i n first_in (omega arith) room (omega arith))
            ∙ sym (get_or_append_left _ _ d i (omega arith) ∙ get_or-window f n xs first_in (omega arith) i d old)
        | inr new ↦ let e : i ≡ n = omega arith in rw e (get_or-set_same xs _ x d (slot_within (length xs) f n first_in room) ∙ sym (get_or_push _ x d n long))
      ]

  -- it adds the record at the end
  pub window_after_push : (x : X) → n < length xs → window f (n + 1) (set xs (slot_of (length xs) f n) x) ≡ window f n xs ++ x ∷ []
  window_after_push x room =
      let ys = set xs (slot_of (length xs) f n) x in
      let same : length ys ≡ length xs = length-set xs (slot_of (length xs) f n) x in
      let first_in' : f ≤ length ys = omega arith in
      let len_in' : n + 1 ≤ length ys = omega arith in
      let long = length-window f n xs first_in (omega arith) in
      let longer = length-window f (n + 1) ys first_in' len_in' in
      same_lists _ _ (longer ∙ sym (length_push (window f n xs) x ∙ ap (λ k. k + 1) long)) (λ i d h. let below : i < n + 1 = omega arith in
      get_or-window f (n + 1) ys first_in' len_in' i d below
      ∙ ap (λ k. get_or ys (slot_of k f i) d) same
      ∙ get_or-pushed x room i d below)

  -- the oldest record goes
  pub window_after_remove : 0 < n → n ≤ length xs → window (slot_of (length xs) f 1) (n - 1) xs ≡ drop 1 (window f n xs)
  window_after_remove some len_in =
      let first_in' = slot_within_or_end (length xs) f 1 first_in (omega arith) in
      let long = length-window f n xs first_in len_in in
      let shorter = length-window (slot_of (length xs) f 1) (n - 1) xs first_in' (omega arith) in
      same_lists _ _ (shorter ∙ sym (length-drop 1 (window f n xs) ∙ ap (λ k. k - 1) long)) (λ i d h. let below : i < n - 1 = omega arith in
      get_or-window (slot_of (length xs) f 1) (n - 1) xs first_in' (omega arith) i d below
      ∙ ap (λ k. get_or xs k d) (next (length xs) f i first_in (omega arith))
      ∙ sym (get_or-drop 1 (window f n xs) i d ∙ get_or-window f n xs first_in len_in (1 + i) d (omega arith)))

pub window-empty : {X : Type 0} (f n : ℕ) (xs : List X) → n ≡ 0 → window f n xs ≡ []
unfolding window
window-empty f n xs e = rw e
