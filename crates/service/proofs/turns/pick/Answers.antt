use Rattle.std.proofs.Common.{is_some, Option, sym, refl, ap, subst}
use Rattle.board.specs.declared.slip.Slip.{Slip}
use Rattle.board.specs.Acts.{state_of}
use Rattle.board.proofs.Slips.{taken_none, taken_out}
use Rattle.service.specs.Turns.{IsInHand, Picks}
use Rattle.service.proofs.turns.pick.Goals as goal

pub returns : goal.returns
returns g c =
    let s = state_of c.args.board.now.table in
    let k = c.in-Ok.slip in
    record {
      held = refl;
      out = taken_out s (state_of c.take.new.self.table) k.axis k.known c.in-Ok.ensures.performs.answers c.take.ensures.performs.state;
      picked = c.in-Ok.ensures.performs;
      none = λ no. cc;
    }

pub returns-in_default : goal.returns-in_default
returns-in_default g c =
    let s = state_of c.args.board.now.table in
    let e = sym c.requires in
    let held : Option Slip → Type 0 = IsInHand c.take.new.self in
    let picked : Option Slip → Type 0 = λ o. Picks g.S.Stage o c.args.board.now c.take.new.self in
    record {
      held = ap is_some e;
      out = subst held e tt;
      picked = subst picked e (c.in_default.field-0, c.in_default.ensures.performs);
      none = λ no. taken_none s c.in_default.field-0 c.in_default.ensures.performs.answers;
    }
