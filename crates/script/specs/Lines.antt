-- How lines of a script are written, word by word.
use Rattle.std.specs.Prelude.{◌≡◌, ℕ, zero, suc, ◌^◌, ◌<◌, Bool, true, false, ◌⊎◌, List, [], ◌∷◌, length, ℤ, pos, Some, None, Ok, Err, Option, Result, codes, ◌≢◌, slice_index, All, FitsSigned}
use Rattle.std.specs.Int.{w16}
use Rattle.gate.specs.declared.inputs.Inputs.{Inputs}
use Rattle.board.specs.declared.command.Command.{Command}
use Rattle.board.specs.Commands.{code_table}
use Rattle.desk.specs.declared.side.Side.{Side}
use Rattle.desk.specs.declared.side.Side.TheVariants.{A, B}
use Rattle.script.specs.Mnemonics.{mnemonic, NamesCommand}
use Rattle.script.specs.Numbers.{WritesNumber, HasBits}
use Rattle.std.specs.Borrow.{Bor}
use Rattle.gate.specs.Inputs.{still_inputs}
use Rattle.board.specs.Commands.{takes}
use Rattle.script.specs.declared.fault.Expected.{Expected}
use Rattle.script.specs.declared.fault.Expected.TheVariants as expected
use Rattle.script.specs.declared.log.Reader.{Reader}
use Rattle.script.specs.declared.log.Reader.TheVariants.{Panel, Book}
use Rattle.script.specs.declared.line.Line.{Line}
use Rattle.script.specs.declared.line.Line.TheVariants as line
use Rattle.script.specs.declared.line.Packet.{Packet}
use Rattle.script.specs.declared.line.Packet.TheVariants as packet

-- a value of which P holds, or none, where it holds of none
abbrev pub Finds : {T : Type 0} → (T → Type 0) → Option T → Type 0
Finds P (Some x) = P x
Finds {T = T} P None = (x : T) → P x → ⊥

-- a text is a number of 16 bits, or of 32, signed or not
abbrev pub WritesWord : List ℕ → ℕ → Type 0
WritesWord text w = (z : ℤ) × WritesNumber text (Some z) × HasBits 32768 z (Some w)

abbrev pub WritesLong : List ℕ → ℕ → Type 0
WritesLong text n = (z : ℤ) × WritesNumber text (Some z) × HasBits 2147483648 z (Some n)

-- a text is a number from 0 on, of so many bits
abbrev pub WritesUnsigned : ℕ → List ℕ → ℕ → Type 0
WritesUnsigned k text n = (n < 2 ^ k) × WritesNumber text (Some (pos n))

-- a command's name, or its code
abbrev pub IsCode : List ℕ → ℕ → Type 0
IsCode text n = ((c : Command) × (text ≡ mnemonic c) × (code_table n ≡ Some c)) ⊎ WritesUnsigned 8 text n

abbrev pub side_name : Side → List ℕ
side_name A = codes "a"
side_name B = codes "b"

abbrev pub reader_name : Reader → List ℕ
reader_name Panel = codes "panel"
reader_name Book = codes "book"

-- a letter stands in a text
abbrev pub HoldsLetter : List ℕ → ℕ → Bool → Type 0
HoldsLetter text letter true = (i : ℕ) × (i < length text) × (slice_index text i ≡ letter)
HoldsLetter text letter false = (i : ℕ) → i < length text → slice_index text i ≢ letter

-- the letters of the active switches, among p, n and h; or a dash
abbrev pub IsSwitchLetters : List ℕ → Type 0
IsSwitchLetters text =
    (text ≡ codes "-")
    ⊎ ((i : ℕ) → i < length text → (slice_index text i ≡ 112) ⊎ ((slice_index text i ≡ 110) ⊎ (slice_index text i ≡ 104)))

-- a count and such letters
pub record IsInputs (count letters : List ℕ) (i : Inputs) : Type 0 where
  pub letters_are : IsSwitchLetters letters
  pub count_fits : FitsSigned w16 i.count
  pub count_is : WritesNumber count (Some i.count)
  pub positive_is : HoldsLetter letters 112 i.positive
  pub negative_is : HoldsLetter letters 110 i.negative
  pub home_is : HoldsLetter letters 104 i.home

-- a gate, written as its number and in no other way
abbrev pub IsGate : List ℕ → ℕ → Type 0
IsGate text g = ((g ≡ 1) × (text ≡ codes "1")) ⊎ ((g ≡ 2) × (text ≡ codes "2"))

-- the number that a text writes, where a type takes it: `gives` tells what the type gives for a number
abbrev pub WritesFitting : {N E : Type 0} → (ℤ → Result N E → Type 0) → List ℕ → Option N → Type 0
WritesFitting gives text (Some n) = (z : ℤ) × WritesNumber text (Some z) × gives z (Ok n)
WritesFitting {E = E} gives text None = (z : ℤ) → WritesNumber text (Some z) → (e : E) × gives z (Err e)

-- there is one word, of which this holds
abbrev pub HasOneWord : (List ℕ → Type 0) → List (Bor (List ℕ)) → Type 0
HasOneWord P words = (t : Bor (List ℕ)) × (words ≡ t ∷ []) × P t.now

-- what the words behind `cycle` bring to the gates
abbrev pub IsCycleWords : List (Bor (List ℕ)) → Inputs → Inputs → Type 0
IsCycleWords words i j =
    ((words ≡ []) × (i ≡ still_inputs) × (j ≡ still_inputs))
    ⊎ ((c : Bor (List ℕ)) × (s : Bor (List ℕ)) × (d : Bor (List ℕ)) × (t : Bor (List ℕ)) × (words ≡ c ∷ (s ∷ (d ∷ (t ∷ [])))) ×
    IsInputs c.now s.now i × IsInputs d.now t.now j)

-- the gate and the word behind `close`
abbrev pub IsCloseWords : List (Bor (List ℕ)) → ℕ → ℕ → Type 0
IsCloseWords words n x = (g : Bor (List ℕ)) × (w : Bor (List ℕ)) × (words ≡ g ∷ (w ∷ [])) × IsGate g.now n × WritesWord w.now x

-- a command's packet, with the value that the words write
abbrev pub IsPacket : Command → List (Bor (List ℕ)) → Packet → Type 0
IsPacket c words (packet.Plain d) = (d ≡ c) × (takes c ≡ 0) × (words ≡ [])
IsPacket c words (packet.Word d w) = (d ≡ c) × (takes c ≡ 1) × HasOneWord (λ t. WritesWord t w) words
IsPacket c words (packet.Long d n) = (d ≡ c) × (takes c ≡ 2) × HasOneWord (λ t. WritesLong t n) words

-- a line that words write, the first of them and those behind it
abbrev pub WritesLine : List ℕ → List (Bor (List ℕ)) → Line → Type 0
WritesLine verb words line.Nothing = ⊥
WritesLine verb words (line.Board side) = (verb ≡ codes "board") × HasOneWord (λ t. t ≡ side_name side) words
WritesLine verb words (line.Command n) = (verb ≡ codes "command") × HasOneWord (λ t. IsCode t n) words
WritesLine verb words (line.Write w) = (verb ≡ codes "write") × HasOneWord (λ t. WritesWord t w) words
WritesLine verb words line.Read = (verb ≡ codes "read") × (words ≡ [])
WritesLine verb words (line.Cycle i j) = (verb ≡ codes "cycle") × IsCycleWords words i j
WritesLine verb words (line.Run n) = (verb ≡ codes "run") × HasOneWord (λ t. WritesUnsigned 32 t n) words
WritesLine verb words line.Reset = (verb ≡ codes "reset") × (words ≡ [])
WritesLine verb words line.Take = (verb ≡ codes "take") × (words ≡ [])
WritesLine verb words (line.Close g w) = (verb ≡ codes "close") × IsCloseWords words g w
WritesLine verb words (line.Collect n) = (verb ≡ codes "collect") × HasOneWord (λ t. WritesUnsigned 8 t n) words
WritesLine verb words (line.Next reader) = (verb ≡ reader_name reader) × (words ≡ [])
WritesLine verb words (line.Event p) = (verb ≡ codes "event") × HasOneWord (λ t. WritesUnsigned 64 t p) words
WritesLine verb words line.Remove = (verb ≡ codes "remove") × (words ≡ [])
WritesLine verb words line.Pairs = (verb ≡ codes "pairs") × (words ≡ [])
WritesLine verb words line.Wires = (verb ≡ codes "wires") × (words ≡ [])
WritesLine verb words (line.Packet p) = (c : Command) × (verb ≡ mnemonic c) × IsPacket c words p

-- what is expected behind a mnemonic, by how many words its packet takes
abbrev pub value_expected : ℕ → Expected
value_expected zero = expected.NoValue
value_expected (suc zero) = expected.WordValue
value_expected (suc (suc n)) = expected.LongValue

-- a command's packet with the value that the words write, or what was expected, where they write none
abbrev pub ReadsPacket : Command → List (Bor (List ℕ)) → Result Packet Expected → Type 0
ReadsPacket c words (Ok p) = IsPacket c words p
ReadsPacket c words (Err e) = (e ≡ value_expected (takes c)) × Finds (IsPacket c words) None

-- the verbs that are no mnemonics
abbrev pub verbs : List (List ℕ)
verbs =
    codes "board" ∷ (codes "command" ∷ (codes "write" ∷ (codes "read" ∷ (codes "cycle" ∷ (codes "run" ∷ (codes "reset" ∷ (codes "take"
    ∷ (codes "close" ∷ (codes "collect" ∷ (codes "panel" ∷ (codes "book" ∷ (codes "event" ∷ (codes "remove" ∷ (codes "pairs"
    ∷ (codes "wires" ∷ [])))))))))))))))

-- what is expected of a line, by its verb
abbrev pub Expects : List ℕ → Expected → Type 0
Expects verb expected.Line = NamesCommand verb None × All (λ v. verb ≢ v) verbs
Expects verb expected.Board = verb ≡ codes "board"
Expects verb expected.Command = verb ≡ codes "command"
Expects verb expected.Word = verb ≡ codes "write"
Expects verb expected.Alone =
    (verb ≡ codes "read") ⊎ ((verb ≡ codes "reset") ⊎ ((verb ≡ codes "take") ⊎ ((verb ≡ codes "panel") ⊎ ((verb ≡ codes "book")
    ⊎ ((verb ≡ codes "remove") ⊎ ((verb ≡ codes "pairs") ⊎ (verb ≡ codes "wires")))))))
Expects verb expected.Cycle = verb ≡ codes "cycle"
Expects verb expected.Run = verb ≡ codes "run"
Expects verb expected.Close = verb ≡ codes "close"
Expects verb expected.Collect = verb ≡ codes "collect"
Expects verb expected.Event = verb ≡ codes "event"
Expects verb expected.NoValue = (c : Command) × (verb ≡ mnemonic c) × (takes c ≡ 0)
Expects verb expected.WordValue = (c : Command) × (verb ≡ mnemonic c) × (takes c ≡ 1)
Expects verb expected.LongValue = (c : Command) × (verb ≡ mnemonic c) × (takes c ≡ 2)

-- what the words of a line are read as: the line that they write, or what was expected, where they write none
abbrev pub ReadsLine : List (Bor (List ℕ)) → Result Line Expected → Type 0
ReadsLine [] r = r ≡ Ok line.Nothing
ReadsLine (verb ∷ words) (Ok l) = WritesLine verb.now words l
ReadsLine (verb ∷ words) (Err e) = Finds (WritesLine verb.now words) None × Expects verb.now e
