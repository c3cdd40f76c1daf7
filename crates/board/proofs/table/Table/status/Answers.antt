use Rattle.std.proofs.Common.{sym, ap, ◌∙◌, arith}
use Rattle.gate.specs.Queries.{status_word}
use Rattle.board.proofs.Tables.{gate_at, sound_at}
use Rattle.board.proofs.table.Table.status.Goals as goal

pub status-requires : goal.status-requires
status-requires c = record { sound = sound_at c.args.self.now c.args.axis c.requires.axis c.requires.sound; axis = omega arith }

pub returns : goal.returns
returns c = c.status.ensures ∙ ap (status_word c.args.axis) (sym (gate_at c.args.self.now c.args.axis c.requires.axis))
