-- What a collect lists of a gate's events, and what a list holds after it.
use Rattle.std.specs.Prelude.{◌≡◌, ℕ, suc, ◌+◌, ◌-◌, ◌%◌, ◌^◌, ◌≤◌, ◌<◌, Bool, true, false, cond, ◌&&◌, List, [], ◌∷◌, ◌++◌, length, take, map, filter, All, AllPairs, Some, None, Option, ◌==◌, nat_le, slice_get}
use Rattle.gate.specs.declared.events.Event.{Event}
use Rattle.gate.specs.declared.gate.Gate.{Gate}
use Rattle.gate.specs.Events.{place, all_events, is_set}
use Rattle.gate.specs.Queries.{new_events}
use Rattle.ring.specs.Listing.{Listing, listing}
use Rattle.board.specs.declared.collect.EventRecord.{EventRecord}
use Rattle.board.specs.declared.collect.Batch.{Batch}

-- two records repeat one another if gate and event agree
abbrev pub is_repeat : EventRecord → EventRecord → Bool
is_repeat r s = (r.gate == s.gate) && (place r.event == place s.event)

-- the newest of a list's records
abbrev pub newest_of : List EventRecord → Option EventRecord
newest_of rs = slice_get rs (length rs - 1)

-- a record repeats the newest, if there is one
abbrev pub is_repeated_by : EventRecord → Option EventRecord → Bool
is_repeated_by r (Some newest) = is_repeat newest r
is_repeated_by r None = false

-- a list's records and one more, unless that repeats the newest of them
abbrev pub with_record : List EventRecord → EventRecord → List EventRecord
with_record rs r = cond (is_repeated_by r (newest_of rs)) rs (rs ++ r ∷ [])

-- the same of one record after another
abbrev pub with_records : List EventRecord → List EventRecord → List EventRecord
with_records rs [] = rs
with_records rs (r ∷ more) = with_records (with_record rs r) more

-- the record of an event of gate n, at the gate's clock
abbrev pub record_of : ℕ → Gate → Event → EventRecord
record_of n g e = record { gate = n; event = e; clock = g.clock }

-- the records of the events of gate n that are new, the lowest place first
abbrev pub new_records : ℕ → Gate → List EventRecord
new_records n g = map (record_of n g) (filter (is_set (new_events g)) all_events)

-- a list's records after a collect of gate n that is accepted
unfoldable pub records_after_collect : ℕ → Gate → List EventRecord → List EventRecord
records_after_collect n g rs = with_records rs (new_records n g)

-- the records of a batch
abbrev pub items_of : Batch → List EventRecord
items_of b = take b.len b.records

-- the records after a collect of gate n fit in the list
abbrev pub has_room : ℕ → Gate → Listing EventRecord → Bool
has_room n g l = nat_le (length (records_after_collect n g l.records)) l.capacity

-- the list after a collect of gate n that is accepted
abbrev pub with_new_records : ℕ → Gate → Listing EventRecord → Listing EventRecord
with_new_records n g l =
    listing (records_after_collect n g l.records)
    ((l.listed + (length (records_after_collect n g l.records) - length l.records)) % 2 ^ 64) l.capacity

-- how many records there are of an event
abbrev pub count_of : Event → List EventRecord → ℕ
count_of e [] = 0
count_of e (r ∷ rs) = cond (place r.event == place e) (suc (count_of e rs)) (count_of e rs)

-- no event of gate n is lost or doubled between what a list held before and after a collect that is accepted
pub record ListsEachOnce (n : ℕ) (g : Gate) (before after : List EventRecord) : Type 0 where
  -- what stood in the list stays, and behind it come records of this gate with its clock, in the order of their places
  pub more : List EventRecord
  pub stays : after ≡ before ++ more
  pub ours : All (λ r. (r.gate ≡ n) × (r.clock ≡ g.clock)) more
  pub ordered : AllPairs (λ (r s : EventRecord). place r.event < place s.event) more
  -- of an event that is new exactly one, unless the newest record that the list held is of this gate and event and no lower event is new
  pub one :
      (e : Event) → is_set (new_events g) e ≡ true → is_repeated_by (record_of n g e) (newest_of before) ≡ false
      → count_of e more ≡ 1
  pub above :
      (e f : Event) → is_set (new_events g) e ≡ true → place f < place e → is_set (new_events g) f ≡ true
      → count_of e more ≡ 1
  -- of that one none
  pub repeated :
      (e : Event) → is_repeated_by (record_of n g e) (newest_of before) ≡ true
      → ((f : Event) → place f < place e → is_set (new_events g) f ≡ false)
      → count_of e more ≡ 0
  -- of any other event none, and of no event two
  pub none : (e : Event) → is_set (new_events g) e ≡ false → count_of e more ≡ 0
  pub once : (e : Event) → count_of e more ≤ 1
