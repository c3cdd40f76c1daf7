use Rattle.std.proofs.Common.{◌∷◌, subst, OnOk, drop}
use Rattle.board.specs.declared.command.Command.TheVariants as command
use Rattle.board.specs.declared.command.GateName.{GateName}
use Rattle.script.specs.declared.line.Packet.TheVariants as packet
use Rattle.host.specs.Works.{NotesPackets, notes_of, ready_packets}
use Rattle.host.proofs.lots.Work.prepare.Goals as goal

pub returns : goal.returns
returns g c =
    let x = notes_of c.args.self.now in
    subst (λ (name : GateName). OnOk c.send.result (NotesPackets g.S.Stage
    (packet.Plain (command.Status name) ∷ drop 1 (ready_packets x.gate c.args.power c.args.mask))
    x c.args.desk.now.board (notes_of c.send.new.self) c.send.new.desk.board)) c.name_of.ensures c.send.ensures
