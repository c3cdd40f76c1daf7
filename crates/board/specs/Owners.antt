-- Whose an act is: which entry of a gate's own list it makes, by rules on the entry, and not by where the act leads.
use Rattle.std.specs.Prelude.{◌≡◌, ◌≢◌, ℕ, ◌+◌, ◌<◌, Bool, true, false, cond, ◌⊎◌, List, ◌∷◌, Some, ◌==◌}
use Rattle.gate.specs.declared.gate.Gate.{Gate}
use Rattle.gate.specs.declared.inputs.Inputs.{Inputs}
use Rattle.gate.specs.declared.orders.Order.{Order}
use Rattle.gate.specs.declared.orders.Order.TheVariants.{Update}
use Rattle.gate.specs.Events.{bit}
use Rattle.gate.specs.Queries.{is_calling}
use Rattle.ring.specs.Listing.{Listing}
use Rattle.board.specs.declared.command.Command.{Command}
use Rattle.board.specs.declared.command.Command.TheVariants.{Status, Ask, Now}
use Rattle.board.specs.declared.command.GateName.{GateName}
use Rattle.board.specs.declared.command.GateName.TheVariants.{First, Second, Calling, Current}
use Rattle.board.specs.declared.port.Port.TheVariants.{Idle, TakingWord, TakingLow, TakingGates}
use Rattle.board.specs.declared.collect.EventRecord.{EventRecord}
use Rattle.board.specs.Collects.{has_room}
use Rattle.board.specs.Commands.{command_of}
use Rattle.board.specs.Own.{OwnEntry, entry_reset, entry_cycle, entry_order, entry_word_order, entry_long_order, entry_query, entry_status, entry_take, entry_close, entry_collect}
use Rattle.board.specs.Acts.{State, gate_of, is_waiting, Act, act_command, act_write, act_cycle, act_reset, act_take, act_close, act_collect}

-- the code of a command comes to an idle port
pub record GivesCommand (s : State) (a : Act) (c : Command) : Type 0 where
  pub code : ℕ
  pub act : a ≡ act_command code
  pub names : command_of code ≡ Some c
  pub idle : s.port ≡ Idle

-- a MULTI_UPDATE's word comes, in its range, with the bit of gate k set
pub record CountsUpdate (k : ℕ) (s : State) (a : Act) (o : Order) : Type 0 where
  pub word : ℕ
  pub act : a ≡ act_write word
  pub taking : s.port ≡ TakingGates
  pub range : word < 4
  pub counted : bit word k ≡ true
  pub order : o ≡ Update

-- gate k passes a test, and no gate of a lower number does
pub record IsLowest (test : Gate → Bool) (s : State) (k : ℕ) : Type 0 where
  pub passes : test (gate_of s k) ≡ true
  pub lower : (j : ℕ) → j < k → test (gate_of s j) ≡ false

-- the gate whose status is asked
abbrev pub IsNamed : State → GateName → ℕ → Type 0
IsNamed s First k = k ≡ 0
IsNamed s Second k = k ≡ 1
IsNamed s Calling k = IsLowest is_calling s k
IsNamed s Current k = k ≡ s.current

-- an act at a board in a state makes this entry in the own list of gate k: orders, packets with words and questions belong to the gate
-- that is current, a status to the gate that is named, a take and a close to the slip's, a collect to the gate that it is of, an UPDATE
-- that is counted to each gate whose bit is set, resets and cycles to both
abbrev pub Belongs : ℕ → State → Act → OwnEntry → Type 0
Belongs k s a entry_reset = a ≡ act_reset
Belongs k s a (entry_cycle i) = (one : Inputs) × (two : Inputs) × (a ≡ act_cycle one two) × (i ≡ cond (k == 0) one two)
Belongs k s a (entry_order o) = (GivesCommand s a (Now o) × (k ≡ s.current)) ⊎ CountsUpdate k s a o
Belongs k s a (entry_word_order o w) = (a ≡ act_write w) × (s.port ≡ TakingWord o) × (k ≡ s.current)
Belongs k s a (entry_long_order o high low) = (a ≡ act_write low) × (s.port ≡ TakingLow o high) × (k ≡ s.current)
Belongs k s a (entry_query q) = GivesCommand s a (Ask q) × (k ≡ s.current)
Belongs k s a (entry_status w) = GivesCommand s a (Status w) × IsNamed s w k
Belongs k s a entry_take = (a ≡ act_take) × IsLowest is_waiting s k
Belongs k s a (entry_close w) = (a ≡ act_close k w) × ((gate_of s k).slip ≡ true)
Belongs k s a entry_collect = (l : Listing EventRecord) × (a ≡ act_collect (k + 1) l) × (has_room (k + 1) (gate_of s k) l ≡ true)

-- no entry of gate k's own list comes of the act
abbrev pub IsForeign : ℕ → State → Act → Type 0
IsForeign k s a = (e : OwnEntry) → Belongs k s a e → ⊥

-- what comes to the port: all but a cycle, a reset, a take, a close and a collect
abbrev pub IsAtPort : Act → Type 0
IsAtPort (act_cycle i j) = ⊥
IsAtPort act_reset = ⊥
IsAtPort act_take = ⊥
IsAtPort (act_close k w) = ⊥
IsAtPort (act_collect n l) = ⊥
IsAtPort a = Unit {0}

-- which gate is current after an act: gate 1 after a reset, the gate whose status is given, and else the one that was
pub record SetsCurrent (s : State) (a : Act) (z : State) : Type 0 where
  pub reset : a ≡ act_reset → z.current ≡ 0
  pub status : (k : ℕ) → k < 2 → (w : GateName) → Belongs k s a (entry_status w) → z.current ≡ k
  pub stays : a ≢ act_reset → ((k : ℕ) → k < 2 → (w : GateName) → Belongs k s a (entry_status w) → ⊥) → z.current ≡ s.current

-- an own list before and after an act: it grows by the entry that belongs to it, and by nothing else
pub record GrowsByEntry (k : ℕ) (s : State) (a : Act) (before after : List OwnEntry) : Type 0 where
  pub one : (after ≡ before) ⊎ ((e : OwnEntry) × (after ≡ e ∷ before))
  pub belongs : (e : OwnEntry) → after ≡ e ∷ before → Belongs k s a e
  pub stands : (e : OwnEntry) → Belongs k s a e → after ≡ e ∷ before
