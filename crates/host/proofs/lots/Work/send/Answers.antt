use Rattle.std.proofs.Common.{◌∷◌, [], ◌++◌, arith}
use Rattle.host.specs.Works.{notes_of}
use Rattle.host.proofs.Works.{answered_next, noted_more}
use Rattle.host.proofs.lots.Work.send.Goals as goal

pub loop-packet-preserved : goal.loop-packet-preserved
loop-packet-preserved g c =
    let before = c.loop-packet.invariant in
    let r = c.play_packet.result in (
      before.0 ++ (r ∷ []),
      answered_next g.S.Stage c.args.packets.now c.loop-packet.packet-index _ before.0 r _ _ _ (omega arith) before.1 c.play_packet.ensures,
      noted_more (notes_of c.args.self.now) (notes_of c.loop-packet.self) before.0 r c.push.new.self.items before.2 c.in_ok-push.ensures.items,
    )
