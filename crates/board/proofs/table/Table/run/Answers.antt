use Rattle.std.proofs.Common.{refl, rules}
use Rattle.board.specs.Own.{entry_order}
use Rattle.board.proofs.Tables.{sound_at, fit_set, entered}
use Rattle.board.proofs.table.Table.run.Goals as goal

pub returns : goal.returns
returns c =
    let t = c.args.self.now in
    record {
      state =
          entered t _ t.current (entry_order c.args.order) c.run.new.self (search rules) c.requires.current refl c.run.ensures.is refl refl;
      sound = fit_set t _ t.current c.run.new.self c.requires (c.run.ensures.sound (sound_at t t.current c.requires.current c.requires)) refl c.requires.current;
    }
