-- How the entries of a list are coded, and what a list is read as.
use Rattle.std.specs.Prelude.{◌≡◌, ℕ, ◌+◌, ◌%◌, ◌<◌, ◌≤◌, Bool, true, false, cond, ◌&&◌, ◌||◌, List, [], ◌∷◌, ◌++◌, length, ◌==◌, nat_lt, slice_index, Ok, Err, Result}
use Rattle.std.specs.Borrow.{Bor}
use Rattle.std.specs.Int.{w16}
use Rattle.std.proofs.Common.{of_z}
use Rattle.stage.specs.Pairs.{is_gate}
use Rattle.gate.specs.declared.inputs.Inputs.{Inputs}
use Rattle.desk.specs.declared.side.Side.{Side}
use Rattle.desk.specs.declared.side.Side.TheVariants as side
use Rattle.replay.specs.declared.entry.Closing.{Closing}
use Rattle.replay.specs.declared.entry.Entry.{Entry}
use Rattle.replay.specs.declared.entry.Entry.TheVariants.{Command, Write, Read, Cycle, Reset, Take, Close, CloseElsewhere, Look, Run, Collect, ReadAt, Remove}
use Rattle.replay.specs.declared.entry.Step.{Step}
use Rattle.replay.specs.declared.fault.Fault.{Fault}
use Rattle.replay.specs.declared.fault.Fault.TheVariants.{Unknown, CutShort, Operand, NoRoom}
use Rattle.replay.specs.Lists.{list_number}
use Rattle.replay.specs.Numbers.{two_bytes, eight_bytes}

-- the byte that says an entry, at board a
abbrev pub code_of : Entry → ℕ
code_of (Command code) = 0
code_of (Write w) = 1
code_of Read = 2
code_of (Cycle i j) = 3
code_of Reset = 4
code_of Take = 5
code_of (Close c) = 6
code_of (CloseElsewhere c) = 7
code_of Look = 8
code_of (Run n) = 9
code_of (Collect gate name) = 10
code_of (ReadAt name place) = 11
code_of (Remove name) = 12

-- what board b adds to it
abbrev pub side_bit : Side → ℕ
side_bit side.A = 0
side_bit side.B = 0x80

abbrev pub switch_bits : Inputs → ℕ
switch_bits i = cond i.positive 1 0 + cond i.negative 2 0 + cond i.home 4 0

abbrev pub input_bytes : Inputs → List ℕ
input_bytes i = two_bytes (of_z w16 i.count) ++ (switch_bits i ∷ [])

abbrev pub operand_bytes : Entry → List ℕ
operand_bytes (Command code) = code ∷ []
operand_bytes (Write w) = two_bytes w
operand_bytes Read = []
operand_bytes (Cycle i j) = input_bytes i ++ input_bytes j
operand_bytes Reset = []
operand_bytes Take = []
operand_bytes (Close c) = c.gate ∷ two_bytes c.word
operand_bytes (CloseElsewhere c) = c.gate ∷ two_bytes c.word
operand_bytes Look = []
operand_bytes (Run n) = two_bytes n
operand_bytes (Collect gate name) = gate ∷ list_number name ∷ []
operand_bytes (ReadAt name place) = list_number name ∷ eight_bytes place
operand_bytes (Remove name) = list_number name ∷ []

-- the bytes of an entry
abbrev pub entry_bytes : Side → Entry → List ℕ
entry_bytes s e = (code_of e + side_bit s) ∷ operand_bytes e

-- a slip is closed for a gate that there is
abbrev pub IsValid : Entry → Type 0
IsValid (Command code) = Unit {0}
IsValid (Write w) = Unit {0}
IsValid Read = Unit {0}
IsValid (Cycle i j) = Unit {0}
IsValid Reset = Unit {0}
IsValid Take = Unit {0}
IsValid (Close c) = is_gate c.gate ≡ true
IsValid (CloseElsewhere c) = is_gate c.gate ≡ true
IsValid Look = Unit {0}
IsValid (Run n) = Unit {0}
IsValid (Collect gate name) = Unit {0}
IsValid (ReadAt name place) = Unit {0}
IsValid (Remove name) = Unit {0}

-- whether an entry begins with a byte, at board a
abbrev pub is_known_code : ℕ → Bool
is_known_code code = nat_lt code 13

-- how many bytes it takes
abbrev pub entry_size : ℕ → ℕ
entry_size code =
    cond (code == 0 || code == 12) 2
    (cond (code == 3) 7
    (cond (code == 1 || code == 9 || code == 10) 3
    (cond (code == 6 || code == 7) 4
    (cond (code == 11) 10 1))))

-- whether the operands that a list begins with are in their ranges: no switch bit from 3 on, a gate that a slip can have, an event list
-- that there is
abbrev pub has_operands_in_range : ℕ → List ℕ → Bool
has_operands_in_range code xs =
    cond (code == 3) (nat_lt (slice_index xs 2) 8 && nat_lt (slice_index xs 5) 8)
    (cond (code == 6 || code == 7) (is_gate (slice_index xs 0))
    (cond (code == 10) (nat_lt (slice_index xs 1) 4)
    (cond (code == 11 || code == 12) (nat_lt (slice_index xs 0) 4) true)))

-- an entry's operands, by its code, and the rest of the list that they stand in
pub record Carries (code : ℕ) (xs : List ℕ) (e : Entry) (rest : List ℕ) : Type 0 where
  pub code_is : code_of e ≡ code
  pub holds : xs ≡ operand_bytes e ++ rest
  pub good : IsValid e

-- the same of a slip to close
pub record CarriesClosing (xs : List ℕ) (c : Closing) (rest : List ℕ) : Type 0 where
  pub holds : xs ≡ (c.gate ∷ two_bytes c.word) ++ rest
  pub good : is_gate c.gate ≡ true

-- the first fault of a code and of the list that its operands should begin
abbrev pub FailsAt : ℕ → List ℕ → Fault → Type 0
FailsAt code xs Unknown = is_known_code code ≡ false
FailsAt code xs CutShort = (is_known_code code ≡ true) × (1 + length xs < entry_size code)
FailsAt code xs Operand = (is_known_code code ≡ true) × (entry_size code ≤ 1 + length xs) × (has_operands_in_range code xs ≡ false)
FailsAt code xs NoRoom = ⊥

-- a list begins with all the bytes of a step, and the rest stands behind them
abbrev pub Begins : List ℕ → Step → List ℕ → Type 0
Begins xs s rest = (xs ≡ entry_bytes s.side s.entry ++ rest) × IsValid s.entry

-- the first fault of a list that begins with no step
abbrev pub Fails : List ℕ → Fault → Type 0
Fails [] f = ⊥
Fails (x ∷ xs) f = FailsAt (x % 128) xs f

-- what a list is read as: the step that it begins with, and the rest; or the first fault that there is
abbrev pub ReadsStep : List ℕ → Result (Step × Bor (List ℕ)) Fault → Type 0
ReadsStep xs (Ok p) = Begins xs p.0 p.1.now
ReadsStep xs (Err f) = Fails xs f
