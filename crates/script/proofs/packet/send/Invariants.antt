use Rattle.std.proofs.Common.{◌∷◌, map, drop, Result}
use Rattle.board.specs.declared.refusal.Refusal.{Refusal}
use Rattle.board.specs.Acts.{act_command, act_write}
use Rattle.script.specs.Packets.{Sends}
use Rattle.script.proofs.packet.send.Given as goal

abbrev pub invariant-loop-word : goal.invariant-loop-word
invariant-loop-word g l =
    (r : Result (Unit {0}) Refusal) (d : _) → Sends g.S.Stage (map act_write (drop l.word-index l.words)) r l.desk.board d
    → Sends g.S.Stage (act_command l.code ∷ map act_write l.words) r l.fn.desk.board d
