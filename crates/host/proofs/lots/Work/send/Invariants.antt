use Rattle.std.proofs.Common.{take}
use Rattle.host.specs.Works.{NotesPackets, notes_of}
use Rattle.host.proofs.lots.Work.send.Given as goal

abbrev pub invariant-loop-packet : goal.invariant-loop-packet
invariant-loop-packet g l =
    NotesPackets g.S.Stage (take l.packet-index l.packets) (notes_of l.fn.self) l.fn.desk.board (notes_of l.self) l.desk.board
