use Rattle.std.proofs.Common.{◌≡◌, ℕ, ◌-◌, ◌≤◌, List, ◌∷◌, ◌++◌, length, take, drop, drop-cons, get_or, Err, sym, refl, ap, ◌∙◌, subst}
use Rattle.std.proofs.lemmas.List.{take_rest}
use Rattle.std.proofs.lemmas.Result.{err_from_is_err_and}
use Rattle.stage.specs.declared.Stage.{Ghosts}
use Rattle.board.specs.declared.board.Board.{Board}
use Rattle.replay.specs.declared.entry.Step.{Step}
use Rattle.replay.specs.declared.fault.Fault.TheVariants.{NoRoom}
use Rattle.replay.specs.declared.lists.Lists.{Lists}
use Rattle.replay.specs.Entries.{Begins}
use Rattle.replay.specs.Replays.{PlaysStep, PlaysSteps, EndsList}
use Rattle.replay.proofs.Writes.{both, filled, crowded}
use Rattle.replay.proofs.boards.Boards.play.Goals as goal

-- a list that is not empty, as its pattern takes it apart
opened : (xs : List ℕ) → 1 ≤ length xs → xs ≡ get_or xs 0 0 ∷ take (length xs - 1) (drop 1 xs)
opened xs h = drop-cons xs 0 0 h ∙ ap (λ z. get_or xs 0 0 ∷ z) (sym (take_rest xs 1))

-- the step that a list begins with, by the pattern
begun : (rest behind : List ℕ) (s : Step) → 1 ≤ length rest → Begins (get_or rest 0 0 ∷ take (length rest - 1) (drop 1 rest)) s behind → Begins rest s behind
begun rest behind s some begins = (opened rest some ∙ begins.0, begins.1)

-- one step more
module _ {S R : Type 0} (m : Ghosts S) (n : Ghosts R) (xs : List ℕ) (a : Board S m) (b : Board R n) (u : Lists) (ss : List Step) (s : Step) where
  one_more : (rest behind : List ℕ) (g c : Board S m) (h d : Board R n) (w v : Lists) (old more : List ℕ) → 1 ≤ length rest
      → PlaysSteps m n xs a b u ss rest g h w old → Begins (get_or rest 0 0 ∷ take (length rest - 1) (drop 1 rest)) s behind
      → PlaysStep m n s.side s.entry g c h d w v more → PlaysSteps m n xs a b u (s ∷ ss) behind c d v (old ++ more)
  one_more rest behind g c h d w v old more some played begins turn =
      (rest, g, h, w, old, more, played, begun rest behind s some begins, turn, refl)

pub loop-rest-preserved : goal.loop-rest-preserved
loop-rest-preserved g c =
    let i = c.loop-rest.invariant in
    let turn = c.in_ok-turn.ensures in
    let before = c.loop-rest.self in
    let after = c.turn.new.self in
    let s = c.in_ok-step.step in (
      s ∷ i.0,
      i.1 ++ turn.0,
      one_more g.S.Stage g.R.Stage _ _ _ _ i.0 s _ _ before.a.board after.a.board before.b.board after.b.board c.loop-rest.lists c.turn.new.lists i.1 turn.0 c.in-len1-up.len_at_least i.2 c.in_ok-step.ensures turn.1,
      both i.3 turn.2,
    )

pub returns-in_err-turn : goal.returns-in_err-turn
returns-in_err-turn g c =
    let i = c.loop-rest.invariant in
    let turn = c.in_err-turn.ensures in
    let before = c.loop-rest.self in
    let after = c.turn.new.self in
    let s = c.in_ok-step.step in
    let r = err_from_is_err_and c.from_residual-in_err-turn.result c.from_residual-in_err-turn.ensures.1 in
    let full : c.from_residual-in_err-turn.result ≡ Err NoRoom = r.1 ∙ ap Err (r.2 ∙ turn.2.0) in
    let first = c.args.self.now in
    let o = c.args.out.now in
    let begins = begun c.loop-rest.rest.now c.in_ok-step.behind.now s c.in-len1-up.len_at_least c.in_ok-step.ensures in (
      i.0,
      i.1,
      subst (λ e. EndsList g.S.Stage g.R.Stage c.args.list.now first.a.board first.b.board c.args.lists.now e i.0 after.a.board after.b.board c.turn.new.lists i.1 (length o.bytes.now - o.len)) (sym full)
          (s, c.loop-rest.rest.now, c.in_ok-step.behind.now, before.a.board, before.b.board, c.loop-rest.lists, turn.0, i.2, begins, turn.1, crowded i.3 turn.2.1),
      filled i.3 turn.2.1,
    )
