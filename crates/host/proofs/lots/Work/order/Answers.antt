use Rattle.std.proofs.lemmas.Result.{on_ok_weaker}
use Rattle.host.specs.Works.{notes_of}
use Rattle.host.proofs.lots.Work.order.Goals as goal

pub returns : goal.returns
returns g c =
    on_ok_weaker c.collect.result (λ collected. (notes_of c.load.new.self, c.load.new.desk.board, c.in_ok-load.ensures, collected)) c.collect.ensures
