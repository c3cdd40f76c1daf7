use Rattle.std.proofs.Common.{rules}
use Rattle.script.specs.Lines.{WritesWord}
use Rattle.script.proofs.Unread.{only_found}
use Rattle.script.proofs.line.only_word.Goals as goal

pub returns : goal.returns
returns c = only_found WritesWord c.args.words.now c.in_ok-only_one.field-0 (search rules) c.word.result c.word.ensures
