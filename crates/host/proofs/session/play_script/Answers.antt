use Rattle.std.proofs.Common.{rules, ◌≡◌, suc, true, false, cond, ℕ, List, [], ◌∷◌, length-append, sym, ap, subst, ◌∙◌, arith, add-one}
use Rattle.std.specs.Borrow.{Bor}
use Rattle.std.specs.Str.Lines.{lines}
use Rattle.std.specs.Str.Iter.{lines_rest}
use Rattle.std.proofs.lemmas.Iterator.Consumers.{YieldsList-end, YieldsList-from_enumerate}
use Rattle.std.proofs.lemmas.Iterator.Splits.{YieldsList-from_lines}
use Rattle.host.specs.Scripts.{PlaysScript}
use Rattle.host.proofs.Scripts.{script_next, texts_of}
use Rattle.host.proofs.session.play_script.Goals as goal

pub loop-index-preserved-then-not-branch : goal.loop-index-preserved-then-not-branch
loop-index-preserved-then-not-branch g c =
    let k = c.loop-index.faults in
    let unread : c.in_ok-play_line.field-0 ≡ false = search rules in
    let item : ℕ × Bor (List ℕ) = (c.in-Some.index, c.in-Some.line) in (
      omega (arith, c.loop-index.invariant.0, length-append c.loop-index.yielded (item ∷ [])),
      script_next g.S.Stage g.R.Stage g.S.Wires.codes g.R.Wires.codes c.loop-index.yielded item c.in_ok-play_line.field-0 k _ _ _ _ (add-one k ∙ sym (ap (λ b. cond b k (suc k)) unread)) c.loop-index.invariant.1 c.in_ok-play_line.ensures,
    )

pub loop-index-preserved : goal.loop-index-preserved
loop-index-preserved g c =
    let k = c.loop-index.faults in
    let read : c.in_ok-play_line.field-0 ≡ true = search rules in
    let item : ℕ × Bor (List ℕ) = (c.in-Some.index, c.in-Some.line) in (
      omega (arith, c.loop-index.invariant.0, length-append c.loop-index.yielded (item ∷ [])),
      script_next g.S.Stage g.R.Stage g.S.Wires.codes g.R.Wires.codes c.loop-index.yielded item c.in_ok-play_line.field-0 k _ _ _ _ (sym (ap (λ b. cond b k (suc k)) read)) c.loop-index.invariant.1 c.in_ok-play_line.ensures,
    )

pub returns : goal.returns
returns g c =
    let s = c.into_iter-index-iterator.result in
    let first = ap (λ it. it.iter) c.into_iter-index-iterator.ensures.into_iter_gives ∙ c.enumerate-index-items.ensures.source in
    let count : s.count ≡ 0 = ap (λ it. it.count) c.into_iter-index-iterator.ensures.into_iter_gives ∙ c.enumerate-index-items.ensures.count in
    let given = YieldsList-from_lines {s = s.iter} c.args.script.now (ap lines_rest first ∙ c.lines.ensures.rest) in
    let end = YieldsList-end (YieldsList-from_enumerate {s = s} given count) c.loop-index.yielded _ c.loop-index.yielded_by _ _ c.in-None.is c.next.ensures.steps in
    subst (λ (texts : List (List ℕ)). PlaysScript g.S.Stage g.R.Stage g.S.Wires.codes g.R.Wires.codes texts c.loop-index.faults c.args.boards.now c.loop-index.boards) (texts_of 0 c.loop-index.yielded (lines c.args.script.now) end.0) c.loop-index.invariant.1
