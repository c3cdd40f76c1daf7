-- What a collect lists, record by record.
use Rattle.std.proofs.Common.{◌≡◌, ℕ, ◌+◌, ◌-◌, ◌<◌, Bool, true, false, cond, not, ◌&&◌, List, [], ◌∷◌, ◌++◌, length, map, take, Some, Option, get_or, sym, refl, ap, ◌∙◌, arith, length-append}
use Rattle.std.proofs.lemmas.List.{append-nil, take_more, map-append, get_or-append-add}
use Rattle.std.proofs.lemmas.List.Elements.{filter-append}
use Rattle.std.proofs.lemmas.Option.{slice_get-get_or}
use Rattle.std.specs.List.{filter}
use Rattle.std.specs.Option.{option_or}
use Rattle.board.specs.declared.collect.EventRecord.{EventRecord}
use Rattle.gate.specs.declared.events.Events.{Events}
use Rattle.gate.specs.declared.gate.Gate.{Gate}
use Rattle.gate.specs.Events.{all_events, is_set, no_events, events_without}
use Rattle.board.specs.Collects.{newest_of, is_repeated_by, with_record, with_records, record_of, records_after_collect}

-- the newest of two lists, one behind the other, is that of the second, if it holds any
pub newest_of-append : (before more : List EventRecord) → newest_of (before ++ more) ≡ option_or (newest_of more) (newest_of before)
newest_of-append before [] = ap newest_of (append-nil before)
newest_of-append before (r ∷ more) =
    let last = length (r ∷ more) - 1 in
    let size = length-append before (r ∷ more) in
    let at : length (before ++ r ∷ more) - 1 ≡ length before + last = omega arith in
    slice_get-get_or (before ++ r ∷ more) (length (before ++ r ∷ more) - 1) r (omega arith)
    ∙ (ap Some (ap (λ k. get_or (before ++ r ∷ more) k r) at ∙ get_or-append-add before (r ∷ more) last r)
    ∙ ap (λ o. option_or o (newest_of before)) (sym (slice_get-get_or (r ∷ more) last r (omega arith))))

-- the same, by what a batch finds
pub newest_is : (before more : List EventRecord) (newest last by_then : Option EventRecord) → newest ≡ newest_of before → last ≡ newest_of more
    → by_then ≡ option_or last newest → by_then ≡ newest_of (before ++ more)
newest_is before more newest last by_then old new is =
    is ∙ (ap (λ o. option_or o newest) new ∙ (ap (option_or (newest_of more)) old ∙ sym (newest_of-append before more)))

-- one record more
pub with_records-push : (rs more : List EventRecord) (r : EventRecord) → with_records rs (more ++ r ∷ []) ≡ with_record (with_records rs more) r
with_records-push rs [] r = refl
with_records-push rs (x ∷ more) r = with_records-push (with_record rs x) more r

pub left_off : (rs : List EventRecord) (r : EventRecord) → is_repeated_by r (newest_of rs) ≡ true → rs ≡ with_record rs r
left_off rs r e = sym (ap (λ b. cond b rs (rs ++ r ∷ [])) e)

pub listed : (rs : List EventRecord) (r : EventRecord) → is_repeated_by r (newest_of rs) ≡ false → rs ++ r ∷ [] ≡ with_record rs r
listed rs r e = sym (ap (λ b. cond b rs (rs ++ r ∷ [])) e)

-- what is kept of a list's first elements, where one more of them is looked at
module _ {X Y : Type 0} (f : X → Y) (p : X → Bool) (xs : List X) (i : ℕ) (d : X) (inside : i < length xs) where
  abbrev kept : List X → List Y
  kept ys = map f (filter p ys)

  first : kept (take (i + 1) xs) ≡ kept (take i xs) ++ kept (get_or xs i d ∷ [])
  first =
      ap kept (take_more xs i d inside)
      ∙ (ap (map f) (filter-append p (take i xs) (get_or xs i d ∷ [])) ∙ map-append f (filter p (take i xs)) (filter p (get_or xs i d ∷ [])))

  pub kept_more : p (get_or xs i d) ≡ true → map f (filter p (take (i + 1) xs)) ≡ map f (filter p (take i xs)) ++ f (get_or xs i d) ∷ []
  kept_more e = first ∙ ap (λ b. kept (take i xs) ++ map f (cond b (get_or xs i d ∷ []) [])) e

  pub kept_same : p (get_or xs i d) ≡ false → map f (filter p (take (i + 1) xs)) ≡ map f (filter p (take i xs))
  kept_same e = first ∙ (ap (λ b. kept (take i xs) ++ map f (cond b (get_or xs i d ∷ []) [])) e ∙ append-nil (kept (take i xs)))

-- a gate whose bits stand as they did at its last collect has nothing to list
and_not : (b : Bool) → (b && not b) ≡ false
and_not true = refl
and_not false = refl

without_itself : (e : Events) → events_without e e ≡ no_events
without_itself e = cc (and_not e.complete, and_not e.wrapped, and_not e.breakpoint_reached, and_not e.positive, and_not e.negative, and_not e.error)

pub nothing_new : (n : ℕ) (g : Gate) (rs : List EventRecord) → g.events ≡ g.found → records_after_collect n g rs ≡ rs
unfolding records_after_collect
nothing_new n g rs h =
    ap (λ e. with_records rs (map (record_of n g) (filter (is_set e) all_events))) (ap (λ e. events_without e g.found) h ∙ without_itself g.found)
