use Rattle.std.proofs.Common.{refl, ◌∙◌, w32, SFits, rules}
use Rattle.std.proofs.lemmas.Int.{to_z-of_z}
use Rattle.board.specs.Acts.{state_of, act_cycle, state_after_act}
use Rattle.board.specs.Runs.{given_pairs}
use Rattle.board.proofs.Owed.{performs, shown_both, shown_cycle}
use Rattle.board.proofs.board.Board.cycle.Goals as goal

pub returns : goal.returns
returns g c =
    let a = act_cycle c.args.one c.args.two in
    let s = state_of c.args.self.now.table in
    let r = c.cycle.result in
    let x = shown_cycle r (state_of c.cycle.new.self) (state_after_act s a) c.cycle.ensures.shows c.cycle.ensures.state in
    let f : SFits w32 r.0.0 = search rules in
    let h : SFits w32 r.0.1 = search rules in
    let i : SFits w32 r.1.0 = search rules in
    let j : SFits w32 r.1.1 = search rules in
    let pairs =
    shown_both g.S.Stage.STEP (g.S.Stage.pairs c.args.self.now.stage) _ _ (given_pairs s a) _ _ _ _ c.show.ensures c.show-2.ensures
    (to_z-of_z w32 r.0.0 f ∙ x.0) (to_z-of_z w32 r.0.1 h ∙ x.1) (to_z-of_z w32 r.1.0 i ∙ x.2) (to_z-of_z w32 r.1.1 j ∙ x.3) in
    performs _ _ _ _ _ refl c.cycle.ensures.state pairs (λ e. cc)
