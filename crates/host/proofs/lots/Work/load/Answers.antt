use Rattle.std.proofs.Common.{rules, ◌≡◌, ℕ, ◌∷◌, [], ◌++◌, ◌∙◌, ap, subst, OnOk, drop}
use Rattle.std.specs.Int.{w32, cast_unsigned}
use Rattle.gate.specs.declared.orders.LongOrder.TheVariants.{Destination}
use Rattle.gate.specs.declared.orders.WordOrder.TheVariants.{ClearEvents}
use Rattle.board.specs.declared.command.Command.TheVariants as command
use Rattle.board.specs.declared.command.GateName.{GateName}
use Rattle.script.specs.declared.line.Packet.TheVariants as packet
use Rattle.host.specs.Works.{NotesPackets, Notes, notes_of, name_of, load_packets}
use Rattle.host.proofs.lots.Work.load.Goals as goal

pub returns : goal.returns
returns g c =
    let x = notes_of c.args.self.now in
    let noted = ap (λ os. record x { outcomes = os }) (c.in_ok-push.ensures.items ∙ ap (λ o. x.outcomes ++ (o ∷ [])) c.new.ensures) in
    let P = λ (name : GateName) (d : ℕ) (y : Notes). OnOk c.send.result (NotesPackets g.S.Stage
    (packet.Plain (command.Status name)
    ∷ (packet.Word (command.Word ClearEvents) 0
    ∷ (packet.Long (command.Long Destination) d ∷ drop 3 (load_packets x.gate c.args.lot))))
    y c.args.desk.now.board (notes_of c.send.new.self) c.send.new.desk.board) in
    let bits : c.cast_unsigned-destination.result ≡ cast_unsigned w32 c.args.lot.destination = search rules in
    let after = notes_of (record c.args.self.now { outcomes = c.push.new.self }) in
    let named = subst (λ (name : GateName). P name c.cast_unsigned-destination.result after) c.name_of.ensures c.send.ensures in
    subst (P (name_of x.gate) _) noted (subst (λ (d : ℕ). P (name_of x.gate) d after) bits named)
