-- A collect that is accepted loses no event and doubles none.
use Rattle.std.proofs.Common.{◌≡◌, ℕ, zero, suc, ◌<◌, ◌≤◌, Bool, true, false, cond, ◌&&◌, eqb, ◌⊎◌, inl, inr, List, [], ◌∷◌, ◌++◌, map, Some, None, Option, sym, refl, ap, ◌∙◌, subst, arith, rules, eqb-true}
use Rattle.std.proofs.lemmas.List.{append-nil, append_assoc}
use Rattle.std.proofs.lemmas.List.Elements.{All-cons}
use Rattle.std.proofs.lemmas.List.Kept.{AllPairs-cons}
use Rattle.std.proofs.lemmas.Bool.{cases_lt}
use Rattle.std.specs.List.{filter, All, AllPairs}
use Rattle.gate.specs.declared.events.Event.{Event}
use Rattle.gate.specs.declared.events.Event.TheVariants.{MotionComplete, WrapAround, Breakpoint, PositiveLimit, NegativeLimit, CommandError}
use Rattle.gate.specs.declared.gate.Gate.{Gate}
use Rattle.gate.specs.Events.{place, all_events, is_set}
use Rattle.gate.specs.Queries.{new_events}
use Rattle.board.specs.declared.collect.EventRecord.{EventRecord}
use Rattle.board.specs.Collects.{is_repeat, newest_of, is_repeated_by, with_records, record_of, records_after_collect, count_of, ListsEachOnce}
use Rattle.board.proofs.Batches.{newest_of-append, left_off, listed}

-- an event is known by its place
event_at : ℕ → Event
event_at zero = MotionComplete
event_at (suc zero) = WrapAround
event_at (suc (suc zero)) = Breakpoint
event_at (suc (suc (suc (suc (suc zero))))) = PositiveLimit
event_at (suc (suc (suc (suc (suc (suc zero)))))) = NegativeLimit
event_at n = CommandError

event_at-place : (e : Event) → event_at (place e) ≡ e
unfolding event_at
event_at-place MotionComplete = refl
event_at-place WrapAround = refl
event_at-place Breakpoint = refl
event_at-place PositiveLimit = refl
event_at-place NegativeLimit = refl
event_at-place CommandError = refl

by_place : (e f : Event) → place e ≡ place f → e ≡ f
by_place e f h = sym (event_at-place e) ∙ (ap event_at h ∙ event_at-place f)

unequal : (m n : ℕ) → (m ≡ n → ⊥) → eqb m n ≡ false
unequal m n apart = go (eqb m n) refl
  where
    go : (b : Bool) → eqb m n ≡ b → b ≡ false
    go true e = absurd (apart (eqb-true m n e))
    go false e = refl

-- P holds of each, put for a walk
abbrev Each : {X : Type 0} → (X → Type 0) → List X → Type 0
Each P [] = Unit {0}
Each P (x ∷ xs) = P x × Each P xs

-- events whose places rise
abbrev Rises : List Event → Type 0
Rises [] = Unit {0}
Rises (e ∷ es) = Each (λ f. place e < place f) es × Rises es

all_rise : Rises all_events
all_rise = search rules

-- what a test keeps of them
module _ (p : Event → Bool) where
  kept_each : (P : Event → Type 0) (es : List Event) → Each P es → Each P (filter p es)
  kept_each P [] h = h
  kept_each P (e ∷ es) (h, hs) = go (p e) (kept_each P es hs)
    where
      go : (b : Bool) → Each P (filter p es) → Each P (cond b (e ∷ filter p es) (filter p es))
      go true rest = (h, rest)
      go false rest = rest

  kept_rise : (es : List Event) → Rises es → Rises (filter p es)
  kept_rise [] h = h
  kept_rise (e ∷ es) (h, hs) = go (p e) (kept_each (λ f. place e < place f) es h) (kept_rise es hs)
    where
      go : (b : Bool) → Each (λ f. place e < place f) (filter p es) → Rises (filter p es) → Rises (cond b (e ∷ filter p es) (filter p es))
      go true above rest = (above, rest)
      go false above rest = rest

  kept_pass : (es : List Event) → Each (λ f. p f ≡ true) (filter p es)
  kept_pass [] = tt
  kept_pass (e ∷ es) = go (p e) refl (kept_pass es)
    where
      go : (b : Bool) → p e ≡ b → Each (λ f. p f ≡ true) (filter p es) → Each (λ f. p f ≡ true) (cond b (e ∷ filter p es) (filter p es))
      go true h rest = (h, rest)
      go false h rest = rest

-- how often an event stands in a list
abbrev often : Event → List Event → ℕ
often e [] = 0
often e (f ∷ es) = cond (eqb (place f) (place e)) (suc (often e es)) (often e es)

often_all : (e : Event) → often e all_events ≡ 1
often_all MotionComplete = refl
often_all WrapAround = refl
often_all Breakpoint = refl
often_all PositiveLimit = refl
often_all NegativeLimit = refl
often_all CommandError = refl

often_kept : (p : Event → Bool) (e : Event) (es : List Event) → often e (filter p es) ≡ cond (p e) (often e es) 0
often_kept p e [] = go (p e)
  where
    go : (b : Bool) → ◌≡◌ {A = ℕ} 0 (cond b 0 0)
    go true = refl
    go false = refl
often_kept p e (f ∷ es) = go (eqb (place f) (place e)) refl (p f) refl (p e) refl (often_kept p e es)
  where
    go : (same : Bool) → eqb (place f) (place e) ≡ same → (b : Bool) → p f ≡ b → (c : Bool) → p e ≡ c → often e (filter p es) ≡ cond (p e) (often e es) 0
        → often e (cond b (f ∷ filter p es) (filter p es)) ≡ cond c (cond same (suc (often e es)) (often e es)) 0
    go true h true i true j rest =
        ap (λ t. cond t (suc (often e (filter p es))) (often e (filter p es))) h ∙ ap suc (rest ∙ ap (λ t. cond t (often e es) 0) j)
    go true h false i true j rest = let is : true ≡ false = sym j ∙ (ap p (sym (by_place f e (eqb-true _ _ h))) ∙ i) in cc
    go true h true i false j rest = let is : true ≡ false = sym i ∙ (ap p (by_place f e (eqb-true _ _ h)) ∙ j) in cc
    go true h false i false j rest = rest ∙ ap (λ t. cond t (often e es) 0) j
    go false h true i c j rest =
        ap (λ t. cond t (suc (often e (filter p es))) (often e (filter p es))) h ∙ (rest ∙ ap (λ t. cond t (often e es) 0) j)
    go false h false i c j rest = rest ∙ ap (λ t. cond t (often e es) 0) j

each_above : (e x : Event) (es : List Event) → place e < place x → Each (λ f. place x < place f) es → Each (λ f. place e < place f) es
each_above e x [] below h = tt
each_above e x (f ∷ es) below (h, hs) = (omega arith, each_above e x es below hs)

none_above : (e : Event) (es : List Event) → Each (λ f. place e < place f) es → often e es ≡ 0
none_above e [] h = refl
none_above e (f ∷ es) (h, hs) =
    ap (λ t. cond t (suc (often e es)) (often e es)) (unequal (place f) (place e) (λ is. absurd (omega arith))) ∙ none_above e es hs

tail_no_more : (e f : Event) (es : List Event) → often e es ≤ often e (f ∷ es)
tail_no_more e f es = go (eqb (place f) (place e))
  where
    go : (t : Bool) → often e es ≤ cond t (suc (often e es)) (often e es)
    go true = omega arith
    go false = omega arith

at_most_one : (b : Bool) (k : ℕ) → k ≡ cond b 1 0 → k ≤ 1
at_most_one true k h = omega arith
at_most_one false k h = omega arith

-- the records of events of gate n
module _ (n : ℕ) (g : Gate) (before : List EventRecord) where
  abbrev record_for : Event → EventRecord
  record_for e = record_of n g e

  abbrev records_for : List Event → List EventRecord
  records_for es = map record_for es

  abbrev is_left_off : Event → Bool
  is_left_off e = is_repeated_by (record_for e) (newest_of before)

  count_often : (e : Event) (es : List Event) → count_of e (records_for es) ≡ often e es
  count_often e [] = refl
  count_often e (f ∷ es) = ap (λ k. cond (eqb (place f) (place e)) (suc k) k) (count_often e es)

  above : (e : Event) (es : List Event) → Each (λ f. place e < place f) es → All (λ (s : EventRecord). place e < place s.event) (records_for es)
  above e [] h = λ k d l. absurd (omega arith)
  above e (f ∷ es) (h, hs) = All-cons (λ (s : EventRecord). place e < place s.event) (record_for f) (records_for es) h (above e es hs)

  ordered : (es : List Event) → Rises es → AllPairs (λ (r s : EventRecord). place r.event < place s.event) (records_for es)
  ordered [] h = λ i j d l m. absurd (omega arith)
  ordered (e ∷ es) (h, hs) = AllPairs-cons (λ (r s : EventRecord). place r.event < place s.event) (record_for e) (records_for es) (above e es h) (ordered es hs)

  ours : (es : List Event) → All (λ (r : EventRecord). (r.gate ≡ n) × (r.clock ≡ g.clock)) (records_for es)
  ours [] = λ k d l. absurd (omega arith)
  ours (e ∷ es) = All-cons (λ (r : EventRecord). (r.gate ≡ n) × (r.clock ≡ g.clock)) (record_for e) (records_for es) (refl, refl) (ours es)

  differs : (q : EventRecord) (e : Event) → (place q.event ≡ place e → ⊥) → is_repeat q (record_for e) ≡ false
  differs q e apart = go (eqb q.gate n) (eqb (place q.event) (place e)) (unequal _ _ apart)
    where
      go : (a b : Bool) → b ≡ false → (a && b) ≡ false
      go true b h = h
      go false b h = refl

  -- behind a newest record whose place is below theirs, all are listed
  all_listed : (e : Event) (es : List Event) (rs : List EventRecord) (q : EventRecord) → Rises (e ∷ es) → newest_of rs ≡ Some q → place q.event ≡ place e
      → with_records rs (records_for es) ≡ rs ++ records_for es
  all_listed e [] rs q h new at = sym (append-nil rs)
  all_listed e (f ∷ es) rs q ((below, more), hs) new at =
      let r = record_for f in
      ap (λ xs. with_records xs (records_for es)) (sym (listed rs r (ap (is_repeated_by r) new ∙ differs q f (λ is. absurd (omega arith)))))
      ∙ (all_listed f es (rs ++ r ∷ []) r hs (newest_of-append rs (r ∷ [])) refl ∙ append_assoc rs (r ∷ []) (records_for es))

  -- the newest record that repeats one
  repeating : (e : Event) → is_left_off e ≡ true → (q : EventRecord) × (newest_of before ≡ Some q) × (place q.event ≡ place e)
  repeating e h = go (newest_of before) refl h
    where
      both : (a b : Bool) → (a && b) ≡ true → b ≡ true
      both true b h = h
      both false b h = cc

      go : (o : Option EventRecord) → newest_of before ≡ o → is_repeated_by (record_for e) o ≡ true
          → (q : EventRecord) × (newest_of before ≡ Some q) × (place q.event ≡ place e)
      go (Some q) new h = (q, new, eqb-true _ _ (both (eqb q.gate n) (eqb (place q.event) (place e)) h))
      go None new h = cc

  apart : (e f : Event) → is_left_off e ≡ true → is_left_off f ≡ false → place e ≡ place f → ⊥
  apart e f h i at = let is : true ≡ false = sym h ∙ (ap is_left_off (by_place e f at) ∙ i) in cc

  same_left_off : (e f : Event) → is_left_off e ≡ true → is_left_off f ≡ true → e ≡ f
  same_left_off e f h i =
      let a = repeating e h in
      let b = repeating f i in
      let same : ◌≡◌ {A = Option EventRecord} (Some a.0) (Some b.0) = sym a.1 ∙ b.1 in
      let is : a.0 ≡ b.0 = cc in
      by_place e f (sym a.2 ∙ (ap (λ (r : EventRecord). place r.event) is ∙ b.2))

  -- none is listed of an event that the newest record repeats, where the lowest that is new lies above it
  none_lower : (x : Event) (xs : List Event) (e : Event) → Rises (x ∷ xs) → is_left_off x ≡ false → is_left_off e ≡ true
      → is_set (new_events g) x ≡ true → ((f : Event) → place f < place e → is_set (new_events g) f ≡ false) → often e (x ∷ xs) ≡ 0
  none_lower x xs e rises h i new lower = elim (cases_lt (place e) (place x)) [
    | inl below ↦ none_above e (x ∷ xs) (below, each_above e x xs below rises.0)
    | inr up ↦ absurd (go (cases_lt (place x) (place e)) up)
  ]
    where
      go : (place x < place e) ⊎ (place e ≤ place x) → place x ≤ place e → ⊥
      go (inl below) up = let is : true ≡ false = sym new ∙ lower x below in cc
      go (inr at) up = apart e x i h (omega arith)

  -- the events of which a record is due
  module _ (es : List Event) (rises : Rises es) (new : Each (λ f. is_set (new_events g) f ≡ true) es)
      (counts : (e : Event) → often e es ≡ cond (is_set (new_events g) e) 1 0) where
    once_due : (e : Event) → is_set (new_events g) e ≡ true → often e es ≡ 1
    once_due e h = counts e ∙ ap (λ b. cond b 1 0) h

    -- an event above one that is new is not the lowest
    not_lowest : (e f : Event) → place f < place e → is_set (new_events g) f ≡ true → (x : Event) (xs : List Event) → es ≡ x ∷ xs → place x ≡ place e → ⊥
    not_lowest e f below h x xs is at =
        let rise : Rises (x ∷ xs) = subst Rises is rises in
        let lower : place f < place x = omega arith in
        let none : often f es ≡ 0 = ap (often f) is ∙ none_above f (x ∷ xs) (lower, each_above f x xs lower rise.0) in
        let once = once_due f h in
        omega arith

    never_due : (e : Event) → is_set (new_events g) e ≡ false → often e es ≡ 0
    never_due e h = counts e ∙ ap (λ b. cond b 1 0) h

-- by the lowest event that is new
by_lowest : (n : ℕ) (g : Gate) (before : List EventRecord) (es : List Event) → Rises es → Each (λ f. is_set (new_events g) f ≡ true) es
    → ((e : Event) → often e es ≡ cond (is_set (new_events g) e) 1 0) → ListsEachOnce n g before (with_records before (records_for n g before es))
by_lowest n g before [] rises new counts = record {
  more = [];
  stays = sym (append-nil before);
  ours = ours n g before [];
  ordered = ordered n g before [] tt;
  one = λ e h i. let is = once_due n g before [] rises new counts e h in absurd (omega arith);
  above = λ e f h below i. let is = once_due n g before [] rises new counts e h in absurd (omega arith);
  repeated = λ e h i. refl;
  none = λ e h. refl;
  once = λ e. omega arith;
}
by_lowest n g before (x ∷ xs) rises new counts = go (is_left_off n g before x) refl
  where
    go : (b : Bool) → is_left_off n g before x ≡ b → ListsEachOnce n g before (with_records before (records_for n g before (x ∷ xs)))
    go true h =
        let q = repeating n g before x h in
        record {
          more = records_for n g before xs;
          stays = ap (λ rs. with_records rs (records_for n g before xs)) (sym (left_off before (record_for n g before x) h)) ∙ all_listed n g before x xs before q.0 rises q.1 q.2;
          ours = ours n g before xs;
          ordered = ordered n g before xs rises.1;
          one = λ e i j.
              count_often n g before e xs
              ∙ (sym (ap (λ t. cond t (suc (often e xs)) (often e xs)) (unequal _ _ (apart n g before x e h j)))
              ∙ once_due n g before (x ∷ xs) rises new counts e i);
          above = λ e f i below j.
              count_often n g before e xs
              ∙ (sym (ap (λ t. cond t (suc (often e xs)) (often e xs)) (unequal _ _ (not_lowest n g before (x ∷ xs) rises new counts e f below j x xs refl)))
              ∙ once_due n g before (x ∷ xs) rises new counts e i);
          repeated = λ e i lower. count_often n g before e xs ∙ (ap (λ f. often f xs) (same_left_off n g before e x i h) ∙ none_above x xs rises.0);
          none = λ e i. let d = never_due n g before (x ∷ xs) rises new counts e i in let t = tail_no_more e x xs in let c = count_often n g before e xs in omega arith;
          once = λ e. let d = at_most_one _ _ (counts e) in let t = tail_no_more e x xs in let c = count_often n g before e xs in omega arith;
        }
    go false h =
        let r = record_for n g before x in
        record {
          more = records_for n g before (x ∷ xs);
          stays =
              ap (λ rs. with_records rs (records_for n g before xs)) (sym (listed before r h))
              ∙ (all_listed n g before x xs (before ++ r ∷ []) r rises (newest_of-append before (r ∷ [])) refl ∙ append_assoc before (r ∷ []) (records_for n g before xs));
          ours = ours n g before (x ∷ xs);
          ordered = ordered n g before (x ∷ xs) rises;
          one = λ e i j. count_often n g before e (x ∷ xs) ∙ once_due n g before (x ∷ xs) rises new counts e i;
          above = λ e f i below j. count_often n g before e (x ∷ xs) ∙ once_due n g before (x ∷ xs) rises new counts e i;
          repeated = λ e i lower. count_often n g before e (x ∷ xs) ∙ none_lower n g before x xs e rises h i new.0 lower;
          none = λ e i. count_often n g before e (x ∷ xs) ∙ never_due n g before (x ∷ xs) rises new counts e i;
          once = λ e. let d = at_most_one _ _ (counts e) in let c = count_often n g before e (x ∷ xs) in omega arith;
        }

pub lists_each_once : (n : ℕ) (g : Gate) (before : List EventRecord) → ListsEachOnce n g before (records_after_collect n g before)
unfolding records_after_collect
lists_each_once n g before =
    let p = is_set (new_events g) in
    by_lowest n g before (filter p all_events) (kept_rise p all_events all_rise) (kept_pass p all_events)
    (λ e. often_kept p e all_events ∙ ap (λ k. cond (p e) k 0) (often_all e))
