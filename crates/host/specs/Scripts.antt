-- How a script is played: line by line, each without its comment, cut into words.
use Rattle.std.specs.Prelude.{◌≡◌, ◌==◌, ℕ, suc, Bool, true, false, cond, List, [], ◌∷◌, Ok, Err, Option, Result, ⊤}
use Rattle.std.specs.List.{before_first}
use Rattle.std.specs.Borrow.{Bor}
use Rattle.std.specs.Iterator.{DrainsIf}
use Rattle.std.specs.Str.Iter.{split_whitespace_rest, split_whitespace_steps}
use Rattle.std.specs.declared.str.SplitWhitespace.{SplitWhitespace}
use Rattle.stage.specs.declared.Stage.{Ghosts}
use Rattle.stage.specs.declared.codes.Codes.{Codes}
use Rattle.board.specs.declared.refusal.Refusal.{Refusal}
use Rattle.script.specs.declared.boards.Boards.{Boards}
use Rattle.script.specs.declared.fault.Expected.{Expected}
use Rattle.script.specs.declared.line.Line.{Line}
use Rattle.script.specs.declared.reply.Reply.{Reply}
use Rattle.script.specs.Lines.{ReadsLine}
use Rattle.script.specs.Sides.{PlaysOnBoards}

-- what stands before the first '#' of a line, or all of it
abbrev pub text_before_comment : List ℕ → List ℕ
text_before_comment text = before_first (λ b. b == 35) text

-- what std's `split_whitespace` gives for a text
abbrev pub IsWordsOf : List ℕ → List (Bor (List ℕ)) → Type 0
IsWordsOf text words = (it : SplitWhitespace) × (split_whitespace_rest it ≡ text) × DrainsIf split_whitespace_steps ⊤ it words

-- over two makes of stage, of which `look` and `see` tell what is on their wires
module _ {S R : Type 0} (m : Ghosts S) (n : Ghosts R) (look : S → Codes) (see : R → Codes) where
  -- a line that could be read is played, and any other leaves the boards alone
  abbrev pub PlaysIfRead : Result Line Expected → Bool → Boards S R m n → Boards S R m n → Type 0
  PlaysIfRead (Ok l) readable x y = (readable ≡ true) × ((answer : Result (Option Reply) Refusal) × PlaysOnBoards m n look see l answer x y)
  PlaysIfRead (Err e) readable x y = (readable ≡ false) × (y ≡ x)

  -- the words of a text without its comment are read as a line, and played
  abbrev pub PlaysText : List ℕ → Bool → Boards S R m n → Boards S R m n → Type 0
  PlaysText text readable x y =
      (words : List (Bor (List ℕ))) × (line : Result Line Expected) × IsWordsOf (text_before_comment text) words × ReadsLine words line
      × PlaysIfRead line readable x y

  -- the lines of a script are played in their order, and so many could not be read
  abbrev pub PlaysScript : List (List ℕ) → ℕ → Boards S R m n → Boards S R m n → Type 0
  PlaysScript [] faults x y = (faults ≡ 0) × (x ≡ y)
  PlaysScript (t ∷ ts) faults x y =
      (z : Boards S R m n) × (readable : Bool) × (rest : ℕ) × PlaysText t readable x z × PlaysScript ts rest z y
      × (faults ≡ cond readable rest (suc rest))

  -- the same, and all could be read
  abbrev pub PlaysWhole : List (List ℕ) → Boards S R m n → Type 0
  PlaysWhole texts x = (y : Boards S R m n) × PlaysScript texts 0 x y
