-- What a move and a trial of windings do, if nothing fails.
use Rattle.std.specs.Prelude.{ℕ, List, pos, Ok}
use Rattle.stage.specs.declared.dac.Word.{Word}
use Rattle.stage.specs.declared.levels.Levels.{Levels}
use Rattle.stage.specs.declared.pwm.Lines.{Lines}
use Rattle.stage.specs.declared.wiring.Wiring.{Wiring}
use Rattle.gate.specs.declared.gate.Gate.{Gate}
use Rattle.travel.specs.declared.plan.Plan.{Plan}
use Rattle.travel.specs.Plans.{ReadsPlan, TakesPlan}
use Rattle.travel.specs.Runs.{TravelsFor, EndsTravel}
use Rattle.windings.specs.declared.settings.Settings.{Settings}
use Rattle.windings.specs.Rows.{IsDriven}
use Rattle.windings.specs.Settings.{ReadsSettings}

-- the words write a plan; a fresh gate takes it, and is followed to the end of its move
abbrev pub ShowsMove : List (List ℕ) → Type 0
ShowsMove words =
    (p : Plan) × (g : Gate) × (n : ℕ) × (h : Gate) × ReadsPlan words (Ok p) × TakesPlan p g × TravelsFor n g h × EndsTravel n h

-- the words name a motor and a power, and at the end both stages show its phases at the last position
abbrev pub ShowsTrial : List (List ℕ) → Type 0
ShowsTrial words =
    (s : Settings) × (d : Levels Word) × (w : Wiring (Levels Lines)) × ReadsSettings words (Ok s) × IsDriven s (pos 255) d w
