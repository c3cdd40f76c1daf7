use Rattle.std.proofs.Common.{refl, ap, ◌∙◌, rules}
use Rattle.gate.specs.Orders.{is_word_in_range}
use Rattle.board.specs.Own.{entry_word_order}
use Rattle.board.proofs.Tables.{sound_at, fit_set, entered, answer_of_range, answer_of_value}
use Rattle.board.proofs.table.Table.run_word.Goals as goal

pub returns : goal.returns
returns c =
    let t = c.args.self.now in
    let e = entry_word_order c.args.order c.args.word in
    record {
      answer = (search rules) ∙ (ap answer_of_range c.run_word.ensures.answer ∙ answer_of_value (is_word_in_range c.args.order c.args.word));
      state = entered t _ t.current e c.run_word.new.self (search rules) c.requires.current refl c.run_word.ensures.is refl refl;
      sound = fit_set t _ t.current c.run_word.new.self c.requires (c.run_word.ensures.sound (sound_at t t.current c.requires.current c.requires)) refl c.requires.current;
    }
