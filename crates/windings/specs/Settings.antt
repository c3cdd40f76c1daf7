-- What the arguments of a trial are taken for.
use Rattle.std.specs.Prelude.{◌≡◌, ℕ, ◌≤◌, List, [], ◌∷◌, Some, None, Ok, Err, codes, Option, Result, ◌≢◌}
use Rattle.std.specs.Str.Parse.{IsNumeral, digits_value, without_leading_plus}
use Rattle.wave.specs.declared.phases.MotorKind.{MotorKind}
use Rattle.wave.specs.declared.phases.MotorKind.TheVariants.{TwoPhase, ThreePhase}
use Rattle.windings.specs.declared.settings.Settings.{Settings}
use Rattle.windings.specs.declared.settings.Fault.{Fault}
use Rattle.windings.specs.declared.settings.Fault.TheVariants.{Kind, Power, Extra}

-- how a kind of motor is written
abbrev pub kind_name : MotorKind → List ℕ
kind_name TwoPhase = codes "two-phase"
kind_name ThreePhase = codes "three-phase"

-- the kind that a word names, or none, where it names none
abbrev pub NamesKind : List ℕ → Option MotorKind → Type 0
NamesKind word (Some kind) = word ≡ kind_name kind
NamesKind word None = (kind : MotorKind) → word ≢ kind_name kind

-- a power is a decimal number of at most 32,767
abbrev pub IsPower : List ℕ → Type 0
IsPower word = IsNumeral 10 (without_leading_plus word) × (digits_value 10 (without_leading_plus word) ≤ 32767)

-- the power that a word writes, or none, where it writes none
abbrev pub WritesPower : List ℕ → Option ℕ → Type 0
WritesPower word (Some power) = IsPower word × (power ≡ digits_value 10 (without_leading_plus word))
WritesPower word None = IsPower word → ⊥

-- what two words are read as, the kind being looked at first
abbrev pub ReadsSettingsWords : List ℕ → List ℕ → Result Settings Fault → Type 0
ReadsSettingsWords kind power (Ok s) = NamesKind kind (Some s.kind) × WritesPower power (Some s.power)
ReadsSettingsWords kind power (Err Kind) = NamesKind kind None
ReadsSettingsWords kind power (Err Power) = ((k : MotorKind) × NamesKind kind (Some k)) × WritesPower power None
ReadsSettingsWords kind power (Err Extra) = ⊥

-- what the words of a trial are read as: a kind and a power, where they name them
abbrev pub ReadsSettings : List (List ℕ) → Result Settings Fault → Type 0
ReadsSettings [] r = ReadsSettingsWords (codes "two-phase") (codes "16384") r
ReadsSettings (kind ∷ []) r = ReadsSettingsWords kind (codes "16384") r
ReadsSettings (kind ∷ (power ∷ [])) r = ReadsSettingsWords kind power r
ReadsSettings words r = r ≡ Err Extra
