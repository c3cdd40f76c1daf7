-- What a desk shows of itself.
use Rattle.stage.specs.declared.Stage.{Ghosts}
use Rattle.board.specs.declared.board.Board.{Board}
use Rattle.desk.specs.declared.desk.Desk.{Desk}

-- the board, for who sees no field of a desk
abbrev pub board_of : {S : Type 0} {m : Ghosts S} → Desk S m → Board S m
board_of d = d.board
