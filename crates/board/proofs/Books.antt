-- The registers of a gate are those of its book.
use Rattle.std.proofs.Common.{◌≡◌, ℕ, Bool, true, false, cond, ◌&&◌, List, [], ◌∷◌, sym, refl, ap, ◌∙◌}
use Rattle.gate.specs.declared.gate.Gate.{Gate}
use Rattle.gate.specs.declared.inputs.Inputs.{Inputs}
use Rattle.gate.specs.declared.orders.Order.{Order}
use Rattle.gate.specs.declared.orders.Order.TheVariants.{Mode, Stop, Update, Auto, Break, Motor}
use Rattle.gate.specs.declared.orders.WordOrder.{WordOrder}
use Rattle.gate.specs.declared.orders.WordOrder.TheVariants as word
use Rattle.gate.specs.declared.orders.LongOrder.{LongOrder}
use Rattle.gate.specs.declared.orders.LongOrder.TheVariants as long
use Rattle.gate.specs.declared.profile.Profile.{Profile}
use Rattle.gate.specs.Cycles.{tick, add_count, trip, is_breakpoint_met, with_breakpoint_reached, cycle}
use Rattle.gate.specs.Gates.{with_command_error, latch}
use Rattle.gate.specs.Orders.{run, run_word, run_long, with_word, is_word_in_range, with_long, is_long_in_range}
use Rattle.gate.proofs.Steps.{meet_keeps}
use Rattle.board.specs.Own.{OwnEntry, entry_reset, entry_cycle, entry_order, entry_word_order, entry_long_order, entry_query, entry_status, entry_take, entry_close, entry_collect, join, gate_by_own_list}
use Rattle.board.specs.Isolation.{Book, book, book_after_order, book_after_long, book_after_latch, is_latching_cycle}

pub record Written (buffered active : Profile) (b : Book) : Type 0 where
  pub loaded : buffered ≡ b.loaded
  pub latched : active ≡ b.latched

-- a gate's registers are those of a book
abbrev pub MatchesBook : Gate → Book → Type 0
MatchesBook g b = Written g.buffered g.active b

meet_active : (b c : Bool) (x : Gate)
    → (cond b (cond c (latch (with_breakpoint_reached x)) (with_breakpoint_reached x)) x).active ≡ cond (b && c) x.buffered x.active
meet_active true true x = refl
meet_active true false x = refl
meet_active false c x = refl

book_latched : (t : Bool) (b : Book) → (cond t (book_after_latch b) b).latched ≡ cond t b.loaded b.latched
book_latched true b = refl
book_latched false b = refl

book_loaded : (t : Bool) (b : Book) → (cond t (book_after_latch b) b).loaded ≡ b.loaded
book_loaded true b = refl
book_loaded false b = refl

kept_tick : (i : Inputs) (g : Gate) (b : Book) → MatchesBook g b → MatchesBook (cycle i g) (cond (is_latching_cycle i g) (book_after_latch b) b)
kept_tick i g b k =
    let x = trip i (add_count i.count (tick g)) in
    record {
      loaded = meet_keeps (λ y. y.buffered) i.home x refl refl ∙ (k.loaded ∙ sym (book_loaded (is_latching_cycle i g) b));
      latched =
          meet_active (is_breakpoint_met i.home x) g.breakpoint.auto x
          ∙ (ap (λ y. cond (is_latching_cycle i g) y g.active) k.loaded ∙ (ap (cond (is_latching_cycle i g) b.loaded) k.latched ∙ sym (book_latched (is_latching_cycle i g) b)));
    }

kept_order : (o : Order) (g : Gate) (b : Book) → MatchesBook g b → MatchesBook (run o g) (book_after_order o b)
kept_order (Mode m) g b k = record { loaded = cc k.loaded; latched = k.latched }
kept_order Stop g b k = record { loaded = cc k.loaded; latched = k.latched }
kept_order Update g b k = record { loaded = k.loaded; latched = k.loaded }
kept_order (Auto on) g b k = k
kept_order (Break m) g b k = k
kept_order (Motor kind) g b k = k

kept_word : (o : WordOrder) (w : ℕ) (g : Gate) (b : Book) → MatchesBook g b → MatchesBook (run_word o w g) b
kept_word o w g b k = go o (is_word_in_range o w)
  where
    go : (o : WordOrder) (t : Bool) → MatchesBook (cond t (with_word o w g) (with_command_error g)) b
    go word.BufferedPower true = k
    go word.Power true = k
    go word.ClearEvents true = k
    go word.Mask true = k
    go o false = k

kept_long : (o : LongOrder) (v : ℕ) (g : Gate) (b : Book) → MatchesBook g b
    → MatchesBook (run_long o v g) (cond (is_long_in_range o v) (book_after_long o v b) b)
kept_long o v g b k = go o (is_long_in_range o v)
  where
    go : (o : LongOrder) (t : Bool) → MatchesBook (cond t (with_long o v g) (with_command_error g)) (cond t (book_after_long o v b) b)
    go long.Destination true = record { loaded = cc k.loaded; latched = k.latched }
    go long.Velocity true = record { loaded = cc k.loaded; latched = k.latched }
    go long.Acceleration true = record { loaded = cc k.loaded; latched = k.latched }
    go long.Point true = k
    go long.Actual true = k
    go o false = k

-- by any own list
pub booked : (es : List OwnEntry) → MatchesBook (gate_by_own_list es) (book es)
booked [] = record { loaded = refl; latched = refl }
booked (entry_reset ∷ es) = record { loaded = refl; latched = refl }
booked (entry_cycle i ∷ es) = kept_tick i (gate_by_own_list es) (book es) (booked es)
booked (entry_order o ∷ es) = kept_order o (gate_by_own_list es) (book es) (booked es)
booked (entry_word_order o w ∷ es) = kept_word o w (gate_by_own_list es) (book es) (booked es)
booked (entry_long_order o h l ∷ es) = kept_long o (join h l) (gate_by_own_list es) (book es) (booked es)
booked (entry_query q ∷ es) = booked es
booked (entry_status w ∷ es) = booked es
booked (entry_take ∷ es) = record { loaded = (booked es).loaded; latched = (booked es).latched }
booked (entry_close w ∷ es) = record { loaded = (booked es).loaded; latched = (booked es).latched }
booked (entry_collect ∷ es) = record { loaded = (booked es).loaded; latched = (booked es).latched }
