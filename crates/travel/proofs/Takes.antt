-- A gate that takes a plan, register by register.
use Rattle.std.proofs.Common.{◌≡◌, ℕ, Bool, true, false, cond, ℤ, Err, Result, sym, ap, ◌∙◌, w32, SFits, to_z, of_z}
use Rattle.std.specs.Result.{is_ok, result_or}
use Rattle.std.proofs.lemmas.Int.{to_z-of_z}
use Rattle.gate.specs.declared.gate.Gate.{Gate}
use Rattle.gate.specs.declared.orders.LongOrder.{LongOrder}
use Rattle.gate.specs.declared.orders.LongOrder.TheVariants.{Destination, Velocity, Acceleration}
use Rattle.gate.specs.declared.orders.OutOfRange.{OutOfRange}
use Rattle.gate.specs.declared.orders.WordOrder.TheVariants.{BufferedPower}
use Rattle.gate.specs.declared.load.Load.TheVariants as load
use Rattle.gate.specs.Gates.{with_command_error}
use Rattle.gate.specs.Loads.{with_load}
use Rattle.gate.specs.Orders.{value_if_fits, is_long_in_range, with_long, run_long, run_word, is_word_in_range, with_word}

-- the gate goes on to the next register just where the value fits
pub goes_on : {F : Type 0} (fits : Bool) (f : F) (r : Result (Unit {0}) OutOfRange) (s : Result (Unit {0}) F) → r ≡ value_if_fits fits tt
    → s ≡ result_or r (Err f) → fits ≡ is_ok s
goes_on true f r s e h = sym (ap is_ok (h ∙ ap (λ x. result_or x (Err f)) e))
goes_on false f r s e h = sym (ap is_ok (h ∙ ap (λ x. result_or x (Err f)) e))

-- the bits that a number is cast to stand for it
bits : (z : ℤ) (v : ℕ) → SFits w32 z → v ≡ of_z w32 (to_z w32 (of_z w32 z)) → v ≡ of_z w32 z
bits z v f b = b ∙ ap (of_z w32) (to_z-of_z w32 z f)

stands : (z : ℤ) (v : ℕ) → SFits w32 z → v ≡ of_z w32 (to_z w32 (of_z w32 z)) → to_z w32 v ≡ z
stands z v f b = ap (to_z w32) (bits z v f b) ∙ to_z-of_z w32 z f

-- what is asked of a number is asked of its bits
pub fits_bits : (fits : ℤ → Bool) (z : ℤ) (v : ℕ) → SFits w32 z → v ≡ of_z w32 (to_z w32 (of_z w32 z)) → fits z ≡ fits (to_z w32 v)
fits_bits fits z v f b = sym (ap fits (stands z v f b))

-- the record after an order whose value fits
runs : (o : LongOrder) (v : ℕ) (g h : Gate) → h ≡ run_long o v g → is_long_in_range o v ≡ true → h ≡ with_long o v g
runs o v g h e fits = e ∙ ap (λ b. cond b (with_long o v g) (with_command_error g)) fits

pub sends : (z : ℤ) (v : ℕ) (g h : Gate) → SFits w32 z → v ≡ of_z w32 (to_z w32 (of_z w32 z)) → h ≡ run_long Destination v g
    → is_long_in_range Destination v ≡ true → h ≡ with_load (load.Destination z) g
sends z v g h f b e fits = runs Destination v g h e fits ∙ ap (λ x. with_load (load.Destination x) g) (stands z v f b)

pub speeds : (v : ℕ) (g h : Gate) → h ≡ run_long Velocity v g → is_long_in_range Velocity v ≡ true → h ≡ with_load (load.Velocity v) g
speeds v g h e fits = runs Velocity v g h e fits

pub hastens : (z : ℤ) (v : ℕ) (g h : Gate) → SFits w32 z → v ≡ of_z w32 (to_z w32 (of_z w32 z)) → h ≡ run_long Acceleration v g
    → is_long_in_range Acceleration v ≡ true → h ≡ with_load (load.Acceleration z) g
hastens z v g h f b e fits = runs Acceleration v g h e fits ∙ ap (λ x. with_load (load.Acceleration x) g) (stands z v f b)

pub powers : (w : ℕ) (g h : Gate) → h ≡ run_word BufferedPower w g → is_word_in_range BufferedPower w ≡ true → h ≡ with_load (load.Power w) g
powers w g h e fits = e ∙ ap (λ b. cond b (with_word BufferedPower w g) (with_command_error g)) fits
