use Rattle.std.proofs.Common.{sym, refl, ◌∙◌}
use Rattle.desk.proofs.desk.elsewhere.close_at.Goals as goal

pub returns-in-Ok : goal.returns-in-Ok
returns-in-Ok g c = (c.in_ok-slip.slip, sym c.in_ok-slip.ensures.value, c.in-Ok.ensures.performs, c.swap.ensures.x_after, c.swap.ensures.y_after ∙ c.take.ensures.after)

pub returns-in-Err : goal.returns-in-Err
returns-in-Err g c =
    let mine = c.in_ok-slip.ensures.value in
    let back = c.in-Err.ensures.back in
    (c.in_ok-slip.slip, sym mine, c.in-Err.ensures.performs, cc, refl)
