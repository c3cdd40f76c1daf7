use Rattle.std.proofs.Common.{◌≡◌, ℕ, ◌-◌, length, subst, arith, rules}
use Rattle.std.proofs.Math.Nat.{sub-zero}
use Rattle.replay.specs.declared.lists.Lists.{Lists}
use Rattle.replay.specs.Lists.{new_lists}
use Rattle.replay.specs.Replays.{EndsList}
use Rattle.replay.proofs.replay.Goals as goal

pub returns : goal.returns
returns g c =
    let k = c.play-played.ensures in
    let boards = c.new-boards.result in
    let first = c.new-boards.ensures in
    let last = c.play-played.new.self in
    let out = c.play-played.new.out in
    let both : ◌≡◌ {A = Lists × ℕ} (c.new-lists.result, length c.args.room.now - 0) (new_lists, length c.args.room.now) = cc (c.new-lists.ensures, sub-zero (length c.args.room.now)) in (
      k.1,
      record {
        board_a = boards.a.board;
        board_b = boards.b.board;
        new_a = first.a;
        new_b = first.b;
        last_a = last.a.board;
        last_b = last.b.board;
        last_lists = c.play-played.new.lists;
        steps = k.0;
        ended =
            subst (λ z. EndsList g.S.Stage g.R.Stage c.args.list.now boards.a.board boards.b.board z.0 c.play-played.result k.0 last.a.board last.b.board c.play-played.new.lists k.1 z.1) both k.2;
      },
      search rules,
      omega (arith, k.3.len),
      search rules,
    )
