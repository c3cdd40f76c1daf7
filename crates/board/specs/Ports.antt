-- The port: where each command, written word and read leads it, in each of its states, and what is then to be done. It stands here alone.
use Rattle.std.specs.Prelude.{ℕ, Some, None, Ok, Err, Option, Result}
use Rattle.board.specs.declared.command.Command.{Command}
use Rattle.board.specs.declared.command.Command.TheVariants.{Status, Ask, Now, Word, Long, MultiUpdate}
use Rattle.board.specs.declared.port.Incoming.{Incoming}
use Rattle.board.specs.declared.port.Incoming.TheVariants as incoming
use Rattle.board.specs.declared.port.Port.{Port}
use Rattle.board.specs.declared.port.Port.TheVariants.{Idle, TakingWord, TakingHigh, TakingLow, TakingGates, Giving}
use Rattle.board.specs.declared.port.Step.{Step}
use Rattle.board.specs.declared.port.Step.TheVariants as step
use Rattle.board.specs.declared.refusal.Refusal.{Refusal}
use Rattle.board.specs.declared.refusal.Refusal.TheVariants.{Unknown, PacketOpen, NotTaking, NotGiving}
use Rattle.board.specs.Commands.{command_of}

-- the packet that a command opens, if it takes words; a command without words leaves the port idle
abbrev pub port_after_start : Option Command → Port
port_after_start (Some (Status w)) = Idle
port_after_start (Some (Ask q)) = Idle
port_after_start (Some (Now o)) = Idle
port_after_start (Some (Word o)) = TakingWord o
port_after_start (Some (Long o)) = TakingHigh o
port_after_start (Some MultiUpdate) = TakingGates
port_after_start None = Idle

abbrev pub start_step : Option Command → Result Step Refusal
start_step (Some (Status w)) = Ok (step.Status w)
start_step (Some (Ask q)) = Ok (step.Ask q)
start_step (Some (Now o)) = Ok (step.Run o)
start_step (Some (Word o)) = Ok step.Wait
start_step (Some (Long o)) = Ok step.Wait
start_step (Some MultiUpdate) = Ok step.Wait
start_step None = Err Unknown

abbrev pub port_after_command : Port → Option Command → Port
port_after_command Idle c = port_after_start c
port_after_command (TakingWord o) c = TakingWord o
port_after_command (TakingHigh o) c = TakingHigh o
port_after_command (TakingLow o high) c = TakingLow o high
port_after_command TakingGates c = TakingGates
port_after_command (Giving w t) c = Giving w t

abbrev pub command_step : Port → Option Command → Result Step Refusal
command_step Idle c = start_step c
command_step (TakingWord o) c = Err PacketOpen
command_step (TakingHigh o) c = Err PacketOpen
command_step (TakingLow o high) c = Err PacketOpen
command_step TakingGates c = Err PacketOpen
command_step (Giving w t) c = Err PacketOpen

-- what waits behind a word that is given
abbrev pub port_after_word : Option ℕ → Port
port_after_word (Some w) = Giving w None
port_after_word None = Idle

abbrev pub port_after_write : Port → ℕ → Port
port_after_write Idle w = Idle
port_after_write (TakingWord o) w = Idle
port_after_write (TakingHigh o) w = TakingLow o w
port_after_write (TakingLow o high) w = Idle
port_after_write TakingGates w = Idle
port_after_write (Giving a t) w = Giving a t

abbrev pub write_step : Port → ℕ → Result Step Refusal
write_step Idle w = Err NotTaking
write_step (TakingWord o) w = Ok (step.Word o w)
write_step (TakingHigh o) w = Ok step.Wait
write_step (TakingLow o high) w = Ok (step.Long o high w)
write_step TakingGates w = Ok (step.Gates w)
write_step (Giving a t) w = Err NotTaking

abbrev pub port_after_read : Port → Port
port_after_read Idle = Idle
port_after_read (TakingWord o) = TakingWord o
port_after_read (TakingHigh o) = TakingHigh o
port_after_read (TakingLow o high) = TakingLow o high
port_after_read TakingGates = TakingGates
port_after_read (Giving w t) = port_after_word t

abbrev pub read_step : Port → Result Step Refusal
read_step Idle = Err NotGiving
read_step (TakingWord o) = Err NotGiving
read_step (TakingHigh o) = Err NotGiving
read_step (TakingLow o high) = Err NotGiving
read_step TakingGates = Err NotGiving
read_step (Giving w t) = Ok (step.Give w)

abbrev pub port_after_incoming : Port → Incoming → Port
port_after_incoming p (incoming.Command b) = port_after_command p (command_of b)
port_after_incoming p (incoming.Write w) = port_after_write p w
port_after_incoming p incoming.Read = port_after_read p

abbrev pub port_step : Port → Incoming → Result Step Refusal
port_step p (incoming.Command b) = command_step p (command_of b)
port_step p (incoming.Write w) = write_step p w
port_step p incoming.Read = read_step p
