use Rattle.std.proofs.Common.{set, refl, rules}
use Rattle.board.specs.declared.table.Table.{Table}
use Rattle.board.specs.Own.{entry_close}
use Rattle.board.proofs.Tables.{sound_at, fit_set, entered, close_answer, close_state}
use Rattle.board.proofs.table.Table.close.Goals as goal

pub returns : goal.returns
returns c =
    let t = c.args.self.now in
    let k = c.args.axis in
    let h = c.requires.axis in
    let u : Table = record { gates = set t.gates k c.close.new.self; current = t.current; port = t.port } in
    record {
      answer = close_answer t k c.args.word h (search rules);
      state =
          close_state t k c.args.word h (search rules) u (entered t u k (entry_close c.args.word) c.close.new.self (search rules) h refl c.close.ensures.is refl refl);
      sound = fit_set t u k c.close.new.self c.requires.sound (c.close.ensures.sound (sound_at t k h c.requires.sound)) refl c.requires.sound.current;
    }
