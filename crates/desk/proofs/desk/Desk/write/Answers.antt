use mathlib.Core.Path.{refl}
use Rattle·board.specs.Acts.{act-write, state-of}
use Rattle·desk·proofs.Marks.{still-keeps}
use Rattle·desk·proofs.desk.Desk.write.Needs as need

pub ghost-self : need.ghost-self
ghost-self g c =
    let d = c .args .self .now in
    (still-keeps (state-of (d .board .table)) _ (act-write (c .args .word)) (d .first) (d .second) refl (c .write .ensures .state) (d .kept), tt)
