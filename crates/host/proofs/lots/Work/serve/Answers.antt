use Rattle.std.proofs.Common.{rules, ◌≡◌, ap, Ok, true}
use Rattle.script.specs.declared.reply.Reply.TheVariants.{Done, Slip}
use Rattle.host.specs.Works.{notes_of}
use Rattle.host.proofs.Works.{closed_once_taken, noted_two}
use Rattle.host.proofs.lots.Work.serve.Goals as goal
use Rattle.host.proofs.lots.Work.serve.Goals.{then-closed, else-closed}

pub returns-in_ok-push-2 : goal.returns-in_ok-push-2
returns-in_ok-push-2 g c =
    let n = c.in-Ok.gate in
    let closed : c.close-closed.result ≡ true = closed_once_taken g.S.Stage n 65534 _ _ _ _ c.in-Ok.ensures.gate c.in-Ok.ensures.performs c.close-closed.ensures in
    let slip : c.map.result ≡ Ok (Slip n) = search rules in
    let done : c.if-closed.push ≡ Done = elim c.if-closed.branch [ then-closed w ↦ w.push-is | else-closed w ↦ cc (closed, w.if-closed.false) ] in (
      Ok n,
      (
        c.take-taken.new.self.board,
        c.in-Ok.ensures.performs,
        rw closed at c.close-closed.ensures,
        noted_two (notes_of c.args.self.now) _ _ _ _ _ _ c.in_ok-push.ensures.items c.in_ok-push-2.ensures.items slip (ap Ok done),
      ),
    )
