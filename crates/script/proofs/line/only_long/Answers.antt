use Rattle.std.proofs.Common.{rules}
use Rattle.script.specs.Lines.{WritesLong}
use Rattle.script.proofs.Unread.{only_found}
use Rattle.script.proofs.line.only_long.Goals as goal

pub returns : goal.returns
returns c = only_found WritesLong c.args.words.now c.in_ok-only_one.field-0 (search rules) c.long.result c.long.ensures
