use Rattle.std.proofs.Common.{[], ◌∷◌, sym, ap, ◌∙◌}
use Rattle.board.specs.Acts.{act_take, waiting_gate}
use Rattle.board.proofs.Sequences.{performed_lists}
use Rattle.service.specs.Turns.{service_acts}
use Rattle.service.proofs.Hands.{turned, idle}
use Rattle.service.proofs.turns.serve_in_turn.Goals as goal

pub returns-then-not-one-clause-served : goal.returns-then-not-one-clause-served
returns-then-not-one-clause-served g c = idle g.S.Stage c.args.board.now c.pick-one.new.board c.pick-one.new.hand (c.if-not-one.ensures {u = tt}).held c.pick-one.ensures.picked

pub returns-then-not-two-clause-served : goal.returns-then-not-two-clause-served
returns-then-not-two-clause-served g c =
    let first = turned g.S.Stage c.args.board.now c.pick-one.new.board c.put.new.board c.args.first c.pick-one.new.hand (c.if-not-one.ensures {u = tt}).held c.pick-one.ensures.picked c.put.ensures.put in
    let none = idle g.S.Stage c.put.new.board c.pick-two.new.board c.pick-two.new.hand (c.if-not-two.ensures {u = tt}).held c.pick-two.ensures.picked in (
      first.0,
      first.1,
      sym (ap waiting_gate first.2.state) ∙ none.0,
      none.1.state ∙ first.2.state,
      performed_lists g.S.Stage (act_take ∷ []) (service_acts first.0 c.args.first []) _ _ _ first.2 none.2,
    )

pub returns-clause-served : goal.returns-clause-served
returns-clause-served g c =
    let first = turned g.S.Stage c.args.board.now c.pick-one.new.board c.put.new.board c.args.first c.pick-one.new.hand (c.if-not-one.ensures {u = tt}).held c.pick-one.ensures.picked c.put.ensures.put in
    let second = turned g.S.Stage c.put.new.board c.pick-two.new.board c.put-2.new.board c.args.second c.pick-two.new.hand (c.if-not-two.ensures {u = tt}).held c.pick-two.ensures.picked c.put-2.ensures.put in (
      first.0,
      second.0,
      first.1,
      second.1 ∙ ap waiting_gate first.2.state,
      performed_lists g.S.Stage (service_acts second.0 c.args.second []) (service_acts first.0 c.args.first []) _ _ _ first.2 second.2,
    )
