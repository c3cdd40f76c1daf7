-- The numbers of the refusals.
use Rattle.std.specs.Prelude.{◌≡◌, ℕ}
use Rattle.gate.specs.declared.orders.OutOfRange.{OutOfRange as Value}
use Rattle.ring.specs.declared.ring.Full.{Full}
use Rattle.board.specs.declared.refusal.Refusal.{Refusal}
use Rattle.board.specs.declared.refusal.Refusal.TheVariants.{Unknown, PacketOpen, NotTaking, NotGiving, OutOfRange, NoCall, NoSlip, NoRoom}

abbrev pub refusal_number : Refusal → ℕ
refusal_number Unknown = 1
refusal_number PacketOpen = 2
refusal_number NotTaking = 3
refusal_number NotGiving = 4
refusal_number OutOfRange = 5
refusal_number NoCall = 6
refusal_number NoSlip = 7
refusal_number NoRoom = 10

-- a gate's refusal of a value, as the board's
abbrev pub GivesOutOfRange : Value → Refusal → Type 0
GivesOutOfRange e r = r ≡ OutOfRange

-- a list's want of room, as the board's
abbrev pub GivesNoRoom : Full → Refusal → Type 0
GivesNoRoom e r = r ≡ NoRoom
