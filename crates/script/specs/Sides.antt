-- Two boards, and the one that a line goes to.
use Rattle.std.specs.Prelude.{◌≡◌, None, Ok, Option, Result}
use Rattle.stage.specs.declared.Stage.{Ghosts}
use Rattle.stage.specs.declared.codes.Codes.{Codes}
use Rattle.board.specs.declared.refusal.Refusal.{Refusal}
use Rattle.board.specs.Runs.{board_state}
use Rattle.desk.specs.declared.side.Side.{Side}
use Rattle.desk.specs.declared.side.Side.TheVariants.{A, B}
use Rattle.script.specs.declared.boards.Boards.{Boards}
use Rattle.script.specs.declared.line.Line.{Line}
use Rattle.script.specs.declared.line.Line.TheVariants as line
use Rattle.script.specs.declared.reply.Reply.{Reply}
use Rattle.script.specs.Plays.{PlaysLine, log_after_line}
use Rattle.desk.specs.Desks.{board_of}

-- two makes of stage, and what a stage of each has on its wires
module _ {S R : Type 0} (m : Ghosts S) (n : Ghosts R) (look : S → Codes) (see : R → Codes) where
  -- the line is played on one board and its log, and the other stays with its own
  abbrev pub PlaysAt : Side → Line → Result (Option Reply) Refusal → Boards S R m n → Boards S R m n → Type 0
  PlaysAt A l r x y =
      PlaysLine m look x.log_a l r (board_of x.a) (board_of y.a) × (y.log_a ≡ log_after_line (board_state (board_of x.a)) l x.log_a)
      × (y.b ≡ x.b) × (y.log_b ≡ x.log_b) × (y.current ≡ x.current)
  PlaysAt B l r x y =
      PlaysLine n see x.log_b l r (board_of x.b) (board_of y.b) × (y.log_b ≡ log_after_line (board_state (board_of x.b)) l x.log_b)
      × (y.a ≡ x.a) × (y.log_a ≡ x.log_a) × (y.current ≡ x.current)

  -- a line that names a board only turns to it
  abbrev pub TurnsTo : Side → Result (Option Reply) Refusal → Boards S R m n → Boards S R m n → Type 0
  TurnsTo side r x y = (r ≡ Ok None) × (y.current ≡ side) × (y.a ≡ x.a) × (y.b ≡ x.b) × (y.log_a ≡ x.log_a) × (y.log_b ≡ x.log_b)

  abbrev pub PlaysOnBoards : Line → Result (Option Reply) Refusal → Boards S R m n → Boards S R m n → Type 0
  PlaysOnBoards (line.Board side) r x y = TurnsTo side r x y
  PlaysOnBoards l r x y = PlaysAt x.current l r x y
