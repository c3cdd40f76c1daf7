use Rattle.std.proofs.Common.{◌≡◌, length, map, replicate, take}
use Rattle.board.specs.Own.{answer_word}
use Rattle.board.specs.Acts.{act_read}
use Rattle.script.specs.Packets.{PerformsInTurn}
use Rattle.script.proofs.packet.fetch.Given as goal

abbrev pub invariant-loop-word : goal.invariant-loop-word
invariant-loop-word g l =
    (length l.word-items ≡ g.row.N)
    × PerformsInTurn g.S.Stage (replicate l.word-index act_read) (map answer_word (take l.word-index l.word-items)) l.initial.desk.board l.desk.board
