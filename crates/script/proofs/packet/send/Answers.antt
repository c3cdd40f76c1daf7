use Rattle.std.proofs.Common.{Ok, refl, arith}
use Rattle.std.proofs.lemmas.List.{drop_all}
use Rattle.script.proofs.Sends.{sent_after, sent_from}
use Rattle.script.proofs.packet.send.Goals as goal

pub loop-word-init : goal.loop-word-init
loop-word-init g c r d rest = sent_after g.S.Stage _ _ r _ _ _ c.in_ok-command.ensures rest

pub loop-word-preserved : goal.loop-word-preserved
loop-word-preserved g c r d rest =
    c.loop-word.invariant r d (sent_from g.S.Stage c.args.words.now c.loop-word.word-index r _ _ _ (omega arith) c.in_ok-write.ensures rest)

pub returns : goal.returns
returns g c = c.loop-word.invariant (Ok tt) _ (rw (drop_all c.loop-word.word-index c.args.words.now (omega arith)) refl)
