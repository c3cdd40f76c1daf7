-- One read after another.
use Rattle.std.proofs.Common.{◌≡◌, ℕ, suc, ◌+◌, ◌-◌, ◌^◌, ◌<◌, ◌≤◌, List, [], ◌∷◌, ◌++◌, length, min, take, drop, set, get_or, sym, refl, ap, ◌∙◌, arith, append_assoc, length-drop, length-take-le}
use Rattle.std.proofs.lemmas.List.{take_more, drop_more, set_at}
use Rattle.ring.specs.Listing.{Listing}
use Rattle.ring.specs.Places.{place_of, index_of, unread_from, with_more, without_oldest}
use Rattle.ring.proofs.Places.{unread_from-carried}

-- From a place on, i records were read into `into`, which was `before`; the next is read at the place `at`.
pub record ReadSoFar {X : Type 0} (l : Listing X) (place : ℕ) (before into : List X) (i at : ℕ) : Type 0 where
  pub within : i ≤ length (unread_from l place)
  pub gets : into ≡ take i (unread_from l place) ++ drop i before
  pub left : unread_from l at ≡ drop i (unread_from l place)
  pub none : i ≡ 0 → at ≡ place

-- the record that is read goes behind those before it
write_more : {X : Type 0} (rs before : List X) (i : ℕ) (x : X) → i < length rs → i < length before → get_or rs i x ≡ x → set (take i rs ++ drop i before) i x ≡ take (i + 1) rs ++ drop (i + 1) before
write_more rs before i x in_rs in_before is =
    let long = length-take-le i rs (omega arith) in
    ap (λ z. set (take i rs ++ z) i x) (drop_more before i x in_before)
    ∙ set_at (take i rs) _ (drop (i + 1) before) x i long
    ∙ sym (ap (λ z. z ++ drop (i + 1) before) (take_more rs i x in_rs ∙ ap (λ z. take i rs ++ z ∷ []) is) ∙ append_assoc (take i rs) (x ∷ []) (drop (i + 1) before))

pub begun : {X : Type 0} (l : Listing X) (place : ℕ) (before : List X) → ReadSoFar l place before before 0 place
begun l place before = record { within = omega arith; gets = refl; left = refl; none = λ _. refl }

module _ {X : Type 0} (l : Listing X) (place : ℕ) (before into : List X) (i at : ℕ) (s : ReadSoFar l place before into i at) where
  pub more : (x : X) (q : ℕ) → i < length before → unread_from l at ≡ x ∷ unread_from l q → ReadSoFar l place before (set into i x) (i + 1) q
  more x q room e =
      let rs = unread_from l place in
      let first : drop i rs ≡ x ∷ unread_from l q = sym s.left ∙ e in
      let in_rs : i < length rs = (let long : length rs - i ≡ suc (length (unread_from l q)) = sym (length-drop i rs) ∙ ap length first in omega arith) in
      let both : get_or rs i x ∷ drop (i + 1) rs ≡ x ∷ unread_from l q = sym (drop_more rs i x in_rs) ∙ first in
      let is : get_or rs i x ≡ x = cc in
      let left : unread_from l q ≡ drop (i + 1) rs = cc in
      record {
        within = omega arith;
        gets = ap (λ z. set z i x) s.gets ∙ write_more rs before i x in_rs room is;
        left = left;
        none = λ none. absurd (omega arith);
      }

  -- nothing is left to read
  pub count_at_end : i ≤ length before → unread_from l at ≡ [] → i ≡ min (length before) (length (unread_from l place))
  count_at_end room last =
      let none : length (unread_from l place) - i ≡ 0 = sym (length-drop i (unread_from l place)) ∙ ap length (sym s.left ∙ last) in
      omega (arith, s.within)

  -- as many were read as there is room for, or as are stored
  pub count_at_most : i ≡ min (length before) (length l.records) → i ≡ min (length before) (length (unread_from l place))
  count_at_most most = omega (arith, s.within, length-drop (index_of l place) l.records)

  -- what was read from a place of an earlier list
  module _ (fits : length l.records < 2 ^ 64) (e : Listing X) (k gone : ℕ) (rest : List X) (stays : gone ≤ k) (within : k ≤ length e.records) where
    pub carried : l ≡ with_more (without_oldest e gone) rest → place ≡ place_of e k → (unread_from l place ≡ drop k e.records ++ rest) × (into ≡ take i (drop k e.records ++ rest) ++ drop i before)
    carried is from =
        let all = unread_from-carried l fits place e k gone rest stays within is from in
        (all, s.gets ∙ ap (λ rs. take i rs ++ drop i before) all)
