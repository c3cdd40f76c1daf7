use Rattle.std.proofs.Common.{rules}
use Rattle.script.proofs.Unread.{no_word_value, no_long_value}
use Rattle.script.proofs.line.Packet.read.Goals as goal

pub returns-in_default-only_word : goal.returns-in_default-only_word
returns-in_default-only_word c = no_word_value c.args.command c.args.words.now (search rules) (c.in_default-only_word.ensures)

pub returns-in_default-only_long : goal.returns-in_default-only_long
returns-in_default-only_long c = no_long_value c.args.command c.args.words.now (search rules) (c.in_default-only_long.ensures)
