use Rattle.std.proofs.Common.{◌≡◌, ◌+◌, Ok, Err, inr, refl, arith}
use denote.Enum.Declared.{tag_of}
use Rattle.replay.specs.contracts.fault.Fault.{the_type}
use Rattle.replay.specs.declared.fault.Fault.{Fault}
use Rattle.replay.specs.declared.fault.Fault.TheVariants.{Unknown, CutShort, Operand, NoRoom}
use Rattle.replay.specs.Faults.{fault_number}
use Rattle.replay.specs.Returns.{stage_a, stage_b}
use Rattle.replay.proofs.Frame.{framed}
use Rattle.replay.proofs.two_gate_replay.Goals as goal

numbered : (f : Fault) → tag_of the_type f + 1 ≡ fault_number f
numbered Unknown = refl
numbered CutShort = refl
numbered Operand = refl
numbered NoRoom = refl

pub returns-in-Ok : goal.returns-in-Ok
returns-in-Ok c =
    let size = c.in-Some.ensures.cases.2 in
    inr (omega (arith, size), (Ok tt, refl, framed stage_a stage_b c.args.list.now c.args.out.now _ _ _ _ _ _ size c.to_be_bytes.ensures c.in-Ok.is c.replay-count.ensures))

pub returns-in-Err : goal.returns-in-Err
returns-in-Err c =
    let size = c.in-Some.ensures.cases.2 in
    inr (omega (arith, size), (Err c.in-Err.fault, numbered c.in-Err.fault, framed stage_a stage_b c.args.list.now c.args.out.now _ _ _ _ _ _ size c.to_be_bytes.ensures c.in-Err.is c.replay-count.ensures))
