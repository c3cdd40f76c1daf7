use Rattle.std.proofs.Common.{set, refl, rules}
use Rattle.board.specs.declared.table.Table.{Table}
use Rattle.board.proofs.Tables.{set_sound, both_cycled, both_fit, both_shown}
use Rattle.board.proofs.table.Table.cycle.Goals as goal

pub cycle-phases_two-requires : goal.cycle-phases_two-requires
cycle-phases_two-requires c = set_sound c.args.self.now.gates _ 0 1 c.cycle-phases_one.ensures.sound c.requires.two

pub returns : goal.returns
returns c =
    let t = c.args.self.now in
    let x = c.cycle-phases_one.new.self in
    let y = c.cycle-phases_two.new.self in
    let u : Table = record { gates = set (set t.gates 0 x) 1 y; current = t.current; port = t.port } in
    record {
      shows = both_shown t u x y (search rules) refl _ _ c.cycle-phases_one.ensures.shows c.cycle-phases_two.ensures.shows;
      state =
          both_cycled t u x y (search rules) refl c.args.one c.args.two refl refl c.cycle-phases_one.ensures.is c.cycle-phases_two.ensures.is;
      sound =
          both_fit t u x y (search rules) refl c.requires c.requires.current c.cycle-phases_one.ensures.sound c.cycle-phases_two.ensures.sound;
    }
