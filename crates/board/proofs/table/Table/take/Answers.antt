use Rattle.std.proofs.Common.{◌<◌, set, sym, refl, ◌∙◌, rules}
use Rattle.board.specs.declared.table.Table.{Table}
use Rattle.board.specs.Own.{entry_take}
use Rattle.board.proofs.Tables.{sound_at, fit_set, entered, take_answer, take_state}
use Rattle.board.proofs.table.Table.take.Goals as goal

pub returns : goal.returns
returns c =
    let t = c.args.self.now in
    let k = c.in_ok-axis.axis in
    let e = sym (c.in_ok-axis.ensures.ok_part) ∙ c.waiting_gate.ensures.is in
    let h : k < 2 = search rules in
    let u : Table = record { gates = set t.gates k c.lend.new.self; current = t.current; port = t.port } in
    record {
      answer = take_answer t k e;
      bound = h;
      state = take_state t k e u (entered t u k entry_take c.lend.new.self (search rules) h refl c.lend.ensures.is refl refl);
      sound = fit_set t u k c.lend.new.self c.requires (c.lend.ensures.sound (sound_at t k h c.requires)) refl c.requires.current;
    }
