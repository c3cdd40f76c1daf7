use Rattle.std.proofs.Common.{sym, refl, ap, ◌∙◌, subst, lit<}
use Rattle.board.specs.Acts.{state_of}
use Rattle.desk.specs.Keeps.{is_kept_while_out}
use Rattle.desk.specs.Closes.{ClosesElsewhere}
use Rattle.desk.proofs.Taken.{fst, snd}
use Rattle.desk.proofs.Elsewhere.{both, theirs_after, rest_after, ends}
use Rattle.desk.proofs.desk.elsewhere.close_elsewhere.Goals as goal

pub invariant_of-other-in-2 : goal.invariant_of-other-in-2
invariant_of-other-in-2 g c =
    let own = c.args.own.now in
    let other = c.args.other.now in
    let o = state_of own.board.table in
    let call = c.close_at-in-2 in
    let second = theirs_after g.R.Stage 1 c.args.word (lit< tt) o.two.slip other.board call.new.board own.second call.new.mine other.second call.new.theirs (snd _ _ own.kept) call.result call.ensures (snd _ _ other.kept) in
    let mark = rest_after g.R.Stage 1 c.args.word (lit< tt) o.two.slip other.board call.new.board own.second call.new.mine other.second call.new.theirs (snd _ _ own.kept) call.result call.ensures in
    record { kept = both _ _ (ap (λ v. is_kept_while_out 0 other.first v) mark ∙ fst _ _ other.kept) second }

pub returns-in-2 : goal.returns-in-2
returns-in-2 g c =
    let own = c.args.own.now in
    let other = c.args.other.now in
    let o = state_of own.board.table in
    let call = c.close_at-in-2 in
    subst (λ gate. ClosesElsewhere g.S.Stage g.R.Stage gate c.args.word call.result own.board own.board other.board call.new.board) (sym c.in-2.is)
    (ends g.R.Stage 1 c.args.word (lit< tt) o.two.slip other.board call.new.board own.second call.new.mine other.second call.new.theirs (snd _ _ own.kept) g.S.Stage own.board 2 refl refl refl call.result call.ensures)
