-- Packets as a host sends them: act after act, up to the end or to the first refusal.
use Rattle.std.specs.Prelude.{◌≡◌, ℕ, Bool, true, false, ◌⊎◌, List, [], ◌∷◌, length, map, replicate, Ok, Err, Result}
use Rattle.stage.specs.declared.Stage.{Ghosts}
use Rattle.board.specs.declared.board.Board.{Board}
use Rattle.board.specs.declared.refusal.Refusal.{Refusal}
use Rattle.board.specs.Own.{Answer, answer_done, answer_refused, answer_word, answer_words, answer_slip}
use Rattle.board.specs.Acts.{Act, act_command, act_read}
use Rattle.board.specs.Runs.{Performs}

abbrev pub is_accepted : Answer → Bool
is_accepted answer_done = true
is_accepted (answer_refused e) = false
is_accepted (answer_word w) = true
is_accepted (answer_words w ws) = true
is_accepted (answer_slip k) = true

module _ {S : Type 0} (m : Ghosts S) where
  -- board b becomes d by acts that are answered in turn
  abbrev pub PerformsInTurn : List Act → List Answer → Board S m → Board S m → Type 0
  PerformsInTurn [] [] b d = b ≡ d
  PerformsInTurn [] (x ∷ xs) b d = ⊥
  PerformsInTurn (a ∷ acts) [] b d = ⊥
  PerformsInTurn (a ∷ acts) (x ∷ xs) b d = (c : Board S m) × Performs m a x b c × PerformsInTurn acts xs c d

  -- the acts up to one that is refused, which is the last one made
  abbrev pub StopsAtRefusal : List Act → Refusal → Board S m → Board S m → Type 0
  StopsAtRefusal [] e b d = ⊥
  StopsAtRefusal (a ∷ acts) e b d =
      Performs m a (answer_refused e) b d
      ⊎ ((c : Board S m) × (x : Answer) × (is_accepted x ≡ true) × Performs m a x b c × StopsAtRefusal acts e c d)

  -- acts that give nothing
  abbrev pub Sends : {T : Type 0} → List Act → Result T Refusal → Board S m → Board S m → Type 0
  Sends acts (Ok _) b d = PerformsInTurn acts (map (λ _. answer_done) acts) b d
  Sends acts (Err e) b d = StopsAtRefusal acts e b d

  -- so many words that a read command gives
  abbrev pub Fetches : ℕ → ℕ → Result (List ℕ) Refusal → Board S m → Board S m → Type 0
  Fetches n code (Ok words) b d =
      (length words ≡ n) × PerformsInTurn (act_command code ∷ replicate n act_read) (answer_done ∷ map answer_word words) b d
  Fetches n code (Err e) b d = StopsAtRefusal (act_command code ∷ replicate n act_read) e b d
