-- The numbers of the faults.
use Rattle.std.specs.Prelude.{ℕ}
use Rattle.replay.specs.declared.fault.Fault.{Fault}
use Rattle.replay.specs.declared.fault.Fault.TheVariants.{Unknown, CutShort, Operand, NoRoom}

abbrev pub fault_number : Fault → ℕ
fault_number Unknown = 1
fault_number CutShort = 2
fault_number Operand = 3
fault_number NoRoom = 4
