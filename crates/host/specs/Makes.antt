-- How the makes of two stages are written.
use Rattle.std.specs.Prelude.{◌≡◌, ℕ, List, ◌++◌, Some, None, Ok, Err, codes, Option, Result, ◌≢◌}
use Rattle.host.specs.declared.makes.Make.{Make}
use Rattle.host.specs.declared.makes.Makes.{Makes}
use Rattle.host.specs.declared.makes.UnknownMake.{UnknownMake}
use Rattle.host.specs.declared.makes.Make.TheVariants.{Dac, Pwm}

abbrev pub make_name : Make → List ℕ
make_name Dac = codes "dac"
make_name Pwm = codes "pwm"

-- the make that a word names, or none, where it names none
abbrev pub NamesMake : List ℕ → Option Make → Type 0
NamesMake word (Some make) = word ≡ make_name make
NamesMake word None = (make : Make) → word ≢ make_name make

-- the makes that two names with a comma between them name, or none, where the text is no such names
abbrev pub NamesMakes : List ℕ → Option (Make × Make) → Type 0
NamesMakes text (Some p) = text ≡ make_name p.0 ++ (codes "," ++ make_name p.1)
NamesMakes text None = (p : Make × Make) → text ≢ make_name p.0 ++ (codes "," ++ make_name p.1)

-- the makes of board a and board b, or none, where the text names no two
abbrev pub makes_of : Result Makes UnknownMake → Option (Make × Make)
makes_of (Ok m) = Some (m.a, m.b)
makes_of (Err e) = None
