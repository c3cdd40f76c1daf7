use Rattle.std.proofs.Common.{get_or, refl, ap, ◌∙◌, rules}
use Rattle.gate.specs.Orders.{long_answer, is_long_in_range, run_long}
use Rattle.board.specs.Acts.{blank_gate}
use Rattle.board.specs.Own.{entry_long_order, join}
use Rattle.board.proofs.Tables.{sound_at, fit_set, entered, answer_of_range, answer_of_value}
use Rattle.board.proofs.table.Table.run_long.Goals as goal

pub returns : goal.returns
returns c =
    let t = c.args.self.now in
    let o = c.args.order in
    let v = c.join-value.ensures in
    let e = entry_long_order o c.args.high c.args.low in
    record {
      answer =
          (search rules) ∙ (ap answer_of_range (c.run_long.ensures.answer ∙ ap (long_answer o) v) ∙ answer_of_value (is_long_in_range o (join c.args.high c.args.low)));
      state =
          entered t _ t.current e c.run_long.new.self (search rules) c.requires.current refl
          (c.run_long.ensures.is ∙ ap (λ n. run_long o n (get_or t.gates t.current blank_gate)) v) refl refl;
      sound = fit_set t _ t.current c.run_long.new.self c.requires (c.run_long.ensures.sound (sound_at t t.current c.requires.current c.requires)) refl c.requires.current;
    }
