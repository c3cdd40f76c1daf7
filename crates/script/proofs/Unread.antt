-- Words that no line is written by.
use Rattle.std.proofs.Common.{rules, ◌≡◌, ◌∙◌, ℕ, ◌≤◌, List, [], ◌∷◌, Some, None, Err, Option, ◌⊎◌, get_or, take, drop, length, ◌-◌, ap, arith, subst, sym, inl, inr, codes, unsigned_abs}
use Rattle.std.proofs.lemmas.List.{take_all}
use Rattle.std.specs.Borrow.{Bor}
use Rattle.std.specs.Int.{FitsUnsigned, w8}
use Rattle.std.specs.Result.{OkIff}
use Rattle.gate.specs.declared.inputs.Inputs.{Inputs}
use Rattle.board.specs.declared.command.Command.{Command}
use Rattle.board.specs.Commands.{takes}
use Rattle.script.specs.declared.fault.Expected.{Expected}
use Rattle.script.specs.declared.fault.Expected.TheVariants as expected
use Rattle.script.specs.declared.line.Line.{Line}
use Rattle.script.specs.declared.line.Packet.{Packet}
use Rattle.script.specs.declared.line.Packet.TheVariants as packet
use Rattle.script.specs.declared.line.Line.TheVariants as line
use Rattle.script.specs.Mnemonics.{NamesCommand, mnemonic}
use Rattle.script.specs.Lines.{Finds, WritesFitting, WritesUnsigned, HasOneWord, IsCode, IsInputs, IsGate, WritesWord, IsCycleWords, IsCloseWords, WritesLine, WritesLong, IsPacket, ReadsPacket, value_expected, Expects, ReadsLine}
use Rattle.script.proofs.MnemonicLemmas.{mnemonic_names_one}
use Rattle.script.proofs.NumberLemmas.{unsigned_fitted}

-- a word that names no command is a code if it is a number of 8 bits
pub code_found : (E : Type 0) (text : List ℕ) (r : Option ℕ) → NamesCommand text None
    → WritesFitting {E = E} (λ z g. OkIff g (FitsUnsigned w8 z) (unsigned_abs z)) text r → Finds (IsCode text) r
code_found E text (Some n) unnamed p = inr (unsigned_fitted E 8 text (Some n) p)
code_found E text None unnamed p = λ n w. elim w [ inl v ↦ unnamed v.0 v.1 | inr v ↦ unsigned_fitted E 8 text None p n v ]

-- what holds of no text does not hold of the only one
pub none_of_one : (P : List ℕ → Type 0) (words : List (Bor (List ℕ))) (t : Bor (List ℕ)) → words ≡ t ∷ [] → (P t.now → ⊥)
    → HasOneWord P words → ⊥
none_of_one P words t e none w = none (subst (λ (b : Bor (List ℕ)). P b.now) (same_head w.0 t (sym w.1 ∙ e)) w.2)
  where
    same_head : (a b : Bor (List ℕ)) → (a ∷ []) ≡ (b ∷ []) → a ≡ b
    same_head a b e = cc

-- what the only one of some words is read as
pub only_found : (P : List ℕ → ℕ → Type 0) (words : List (Bor (List ℕ))) (t : Bor (List ℕ)) → words ≡ t ∷ [] → (r : Option ℕ)
    → Finds (P t.now) r → Finds (λ n. HasOneWord (λ x. P x n) words) r
only_found P words t e (Some n) p = (t, e, p)
only_found P words t e None none = λ n. none_of_one (λ x. P x n) words t e (none n)

-- only such a line begins with its verb
pub no_command : (words : List (Bor (List ℕ))) → ((n : ℕ) → HasOneWord (λ t. IsCode t n) words → ⊥)
    → Finds (WritesLine (codes "command") words) None
no_command words none (line.Command n) w = none n w.1
no_command words none l w = search rules

pub no_write : (words : List (Bor (List ℕ))) → Finds (λ n. HasOneWord (λ t. WritesWord t n) words) None
    → Finds (WritesLine (codes "write") words) None
no_write words none (line.Write n) w = none n w.1
no_write words none l w = search rules

pub no_run : (words : List (Bor (List ℕ))) → ((n : ℕ) → HasOneWord (λ t. WritesUnsigned 32 t n) words → ⊥)
    → Finds (WritesLine (codes "run") words) None
no_run words none (line.Run n) w = none n w.1
no_run words none l w = search rules

pub no_collect : (words : List (Bor (List ℕ))) → ((n : ℕ) → HasOneWord (λ t. WritesUnsigned 8 t n) words → ⊥)
    → Finds (WritesLine (codes "collect") words) None
no_collect words none (line.Collect n) w = none n w.1
no_collect words none l w = search rules

pub no_event : (words : List (Bor (List ℕ))) → ((p : ℕ) → HasOneWord (λ t. WritesUnsigned 64 t p) words → ⊥)
    → Finds (WritesLine (codes "event") words) None
no_event words none (line.Event p) w = none p w.1
no_event words none l w = search rules

pub no_cycle : (words : List (Bor (List ℕ))) → ((i j : Inputs) → IsCycleWords words i j → ⊥) → Finds (WritesLine (codes "cycle") words) None
no_cycle words none (line.Cycle i j) w = none i j w.1
no_cycle words none l w = search rules

pub no_close : (words : List (Bor (List ℕ))) → ((g w : ℕ) → IsCloseWords words g w → ⊥) → Finds (WritesLine (codes "close") words) None
no_close words none (line.Close g w) v = none g w v.1
no_close words none l v = search rules

-- switches that are not written bring nothing to the gates
pub no_cycle_words : (words : List (Bor (List ℕ))) (d : Bor (List ℕ)) → Finds (IsInputs (get_or words 0 d).now (get_or words 1 d).now) None
    ⊎ Finds (IsInputs (get_or words 2 d).now (get_or words 3 d).now) None → length words ≡ 4 → (i j : Inputs) → IsCycleWords words i j → ⊥
no_cycle_words words d none l i j (inl w) = absurd (omega (arith, ap length w.0))
no_cycle_words words d (inl none) l i j (inr w) = none i (subst (λ (ws : List (Bor (List ℕ))). IsInputs (get_or ws 0 d).now (get_or ws 1 d).now i) (sym w.4) w.5)
no_cycle_words words d (inr none) l i j (inr w) = none j (subst (λ (ws : List (Bor (List ℕ))). IsInputs (get_or ws 2 d).now (get_or ws 3 d).now j) (sym w.4) w.6)

-- a gate that is not named, or a word that is no number, closes nothing
pub no_close_words : (words : List (Bor (List ℕ))) (d : Bor (List ℕ)) → Finds (IsGate (get_or words 0 d).now) None
    ⊎ Finds (WritesWord (get_or words 1 d).now) None → (n x : ℕ) → IsCloseWords words n x → ⊥
no_close_words words d (inl none) n x v = none n (subst (λ (ws : List (Bor (List ℕ))). IsGate (get_or ws 0 d).now n) (sym v.2) v.3)
no_close_words words d (inr none) n x v = none x (subst (λ (ws : List (Bor (List ℕ))). WritesWord (get_or ws 1 d).now x) (sym v.2) v.4)

-- no packet of one word, or of two, without its value
pub no_word_value : (c : Command) (words : List (Bor (List ℕ))) → takes c ≡ 1 → Finds (λ n. HasOneWord (λ t. WritesWord t n) words) None
    → ReadsPacket c words (Err expected.WordValue)
no_word_value c words k none = (sym (ap value_expected k), no_packet)
  where
    no_packet : (p : Packet) → IsPacket c words p → ⊥
    no_packet (packet.Plain d) w = absurd (omega (arith, k, w.1))
    no_packet (packet.Word d n) w = none n w.2
    no_packet (packet.Long d n) w = absurd (omega (arith, k, w.1))

pub no_long_value : (c : Command) (words : List (Bor (List ℕ))) → takes c ≡ 2 → Finds (λ n. HasOneWord (λ t. WritesLong t n) words) None
    → ReadsPacket c words (Err expected.LongValue)
no_long_value c words k none = (sym (ap value_expected k), no_packet)
  where
    no_packet : (p : Packet) → IsPacket c words p → ⊥
    no_packet (packet.Plain d) w = absurd (omega (arith, k, w.1))
    no_packet (packet.Word d n) w = absurd (omega (arith, k, w.1))
    no_packet (packet.Long d n) w = none n w.2

-- a command's name is no other verb, and names no other command
pub no_packet_line : (c : Command) (verb : List ℕ) (words : List (Bor (List ℕ))) (e : Expected) → verb ≡ mnemonic c
    → ReadsPacket c words (Err e) → Finds (WritesLine verb words) None × Expects verb e
no_packet_line c verb words e v r = (no_line, expects)
  where
    no_line : (l : Line) → WritesLine verb words l → ⊥
    no_line (line.Packet p) w = r.1 p (subst (λ (d : Command). IsPacket d words p) (mnemonic_names_one w.0 c (sym w.1 ∙ v)) w.2)
    no_line l w = search rules

    expects : Expects verb e
    expects = search rules

-- the same of a whole line
pub says_refused : (words : List (Bor (List ℕ))) (d : Bor (List ℕ)) (c : Command) (e : Expected) → 1 ≤ length words
    → (get_or words 0 d).now ≡ mnemonic c → ReadsPacket c (take (length words - 1) (drop 1 words)) (Err e) → ReadsLine words (Err e)
says_refused [] d c e l v r = absurd (omega arith)
says_refused (verb ∷ words) d c e l v r =
    let rest : take (length (verb ∷ words) - 1) words ≡ words = take_all (length (verb ∷ words) - 1) words (omega arith) in
    no_packet_line c verb.now words e v (subst (λ (ws : List (Bor (List ℕ))). ReadsPacket c ws (Err e)) rest r)
