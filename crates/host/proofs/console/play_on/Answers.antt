use Rattle.std.proofs.Common.{rules, ◌≡◌}
use Rattle.host.proofs.console.play_on.Goals as goal

pub returns-2 : goal.returns-2
returns-2 g c =
    let all_read : c.in_ok-played.field-0 ≡ 0 = search rules in
    (c.play_script-played.new.boards, rw all_read at c.in_ok-played.ensures)
