-- What the words of a plan are taken for, and which plans a gate takes.
use Rattle.std.specs.Prelude.{◌≡◌, ℕ, ◌^◌, ◌<◌, Bool, true, false, List, [], ◌∷◌, codes, ℤ, Some, None, Ok, Err, Option, Result, FitsSigned}
use Rattle.std.specs.Int.{w32}
use Rattle.std.specs.Str.Parse.{IsNumeral, digits_value, without_leading_plus, without_leading_sign, signed_digits_value}
use Rattle.gate.specs.declared.gate.Gate.{Gate}
use Rattle.gate.specs.declared.load.Load.TheVariants as load
use Rattle.gate.specs.Gates.{fresh_gate, latch}
use Rattle.gate.specs.Loads.{is_load_in_range, with_load}
use Rattle.travel.specs.declared.plan.Plan.{Plan}
use Rattle.travel.specs.declared.plan.Fault.{Fault}
use Rattle.travel.specs.declared.plan.Fault.TheVariants.{Destination, Velocity, Acceleration, Power, Count}

-- a decimal number of k bits, after a plus or not
abbrev pub IsUnsigned : ℕ → List ℕ → Type 0
IsUnsigned k word = IsNumeral 10 (without_leading_plus word) × (digits_value 10 (without_leading_plus word) < 2 ^ k)

-- a decimal number of 32 bits, after a sign or not
abbrev pub IsSigned : List ℕ → Type 0
IsSigned word = IsNumeral 10 (without_leading_sign word) × FitsSigned w32 (signed_digits_value 10 word)

-- the number that a word writes, or none, where it writes none
abbrev pub WritesUnsigned : ℕ → List ℕ → Option ℕ → Type 0
WritesUnsigned k word (Some n) = IsUnsigned k word × (n ≡ digits_value 10 (without_leading_plus word))
WritesUnsigned k word None = IsUnsigned k word → ⊥

abbrev pub WritesSigned : List ℕ → Option ℤ → Type 0
WritesSigned word (Some z) = IsSigned word × (z ≡ signed_digits_value 10 word)
WritesSigned word None = IsSigned word → ⊥

-- what four words are read as, from the first to the last
abbrev pub ReadsPlanWords : List ℕ → List ℕ → List ℕ → List ℕ → Result Plan Fault → Type 0
ReadsPlanWords d v a p (Ok plan) =
    WritesSigned d (Some plan.destination) × WritesUnsigned 32 v (Some plan.velocity) × WritesSigned a (Some plan.acceleration)
    × WritesUnsigned 16 p (Some plan.power)
ReadsPlanWords d v a p (Err Destination) = WritesSigned d None
ReadsPlanWords d v a p (Err Velocity) = IsSigned d × WritesUnsigned 32 v None
ReadsPlanWords d v a p (Err Acceleration) = IsSigned d × IsUnsigned 32 v × WritesSigned a None
ReadsPlanWords d v a p (Err Power) = IsSigned d × IsUnsigned 32 v × IsSigned a × WritesUnsigned 16 p None
ReadsPlanWords d v a p (Err Count) = ⊥

-- what the words of a move are read as: three, or four where they name a power
abbrev pub ReadsPlan : List (List ℕ) → Result Plan Fault → Type 0
ReadsPlan (d ∷ (v ∷ (a ∷ []))) r = ReadsPlanWords d v a (codes "16384") r
ReadsPlan (d ∷ (v ∷ (a ∷ (p ∷ [])))) r = ReadsPlanWords d v a p r
ReadsPlan words r = r ≡ Err Count

-- the numbers that a gate takes
abbrev pub has_good_destination : Plan → Bool
has_good_destination p = is_load_in_range (load.Destination p.destination)

abbrev pub has_good_velocity : Plan → Bool
has_good_velocity p = is_load_in_range (load.Velocity p.velocity)

abbrev pub has_good_acceleration : Plan → Bool
has_good_acceleration p = is_load_in_range (load.Acceleration p.acceleration)

abbrev pub has_good_power : Plan → Bool
has_good_power p = is_load_in_range (load.Power p.power)

-- a plan is refused for the first of its numbers that is out of range
abbrev pub HasFault : Plan → Fault → Type 0
HasFault p Destination = has_good_destination p ≡ false
HasFault p Velocity = (has_good_destination p ≡ true) × (has_good_velocity p ≡ false)
HasFault p Acceleration = (has_good_destination p ≡ true) × (has_good_velocity p ≡ true) × (has_good_acceleration p ≡ false)
HasFault p Power =
    (has_good_destination p ≡ true) × (has_good_velocity p ≡ true) × (has_good_acceleration p ≡ true) × (has_good_power p ≡ false)
HasFault p Count = ⊥

-- a gate whose buffered registers carry the plan
abbrev pub with_plan : Plan → Gate → Gate
with_plan p g =
    with_load (load.Power p.power)
    (with_load (load.Acceleration p.acceleration) (with_load (load.Velocity p.velocity) (with_load (load.Destination p.destination) g)))

-- a fresh gate that has taken the plan
pub record TakesPlan (p : Plan) (g : Gate) : Type 0 where
  pub destination : has_good_destination p ≡ true
  pub velocity : has_good_velocity p ≡ true
  pub acceleration : has_good_acceleration p ≡ true
  pub power : has_good_power p ≡ true
  pub is : g ≡ latch (with_plan p (fresh_gate false))
