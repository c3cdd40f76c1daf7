use Rattle.std.proofs.Common.{sym, ap, ◌∙◌}
use Rattle.gate.specs.Queries.{query_answer}
use Rattle.board.proofs.Tables.{gate_at, sound_at}
use Rattle.board.proofs.table.Table.ask.Goals as goal

pub answer-requires : goal.answer-requires
answer-requires c = sound_at c.args.self.now c.args.self.now.current c.requires.current c.requires

pub returns : goal.returns
returns c = c.answer.ensures ∙ ap (query_answer c.args.query) (sym (gate_at c.args.self.now c.args.self.now.current c.requires.current))
