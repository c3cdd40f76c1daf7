-- What a list leaves, once it is played against two boards with the event lists beside them.
use Rattle.std.specs.Prelude.{◌≡◌, ℕ, ◌+◌, ◌-◌, ◌<◌, List, [], ◌∷◌, ◌++◌, length, take, Ok, Err, Result}
use Rattle.stage.specs.declared.Stage.{Ghosts}
use Rattle.board.specs.declared.board.Board.{Board}
use Rattle.board.specs.declared.refusal.Refusal.{Refusal}
use Rattle.board.specs.Runs.{IsReachedBy}
use Rattle.desk.specs.declared.side.Side.{Side}
use Rattle.desk.specs.declared.side.Side.TheVariants as side
use Rattle.replay.specs.declared.reply.Reply.{Reply}
use Rattle.replay.specs.declared.entry.Entry.{Entry}
use Rattle.replay.specs.declared.entry.Step.{Step}
use Rattle.replay.specs.declared.fault.Fault.{Fault}
use Rattle.replay.specs.declared.fault.Fault.TheVariants.{Unknown, CutShort, Operand, NoRoom}
use Rattle.replay.specs.declared.lists.Lists.{Lists}
use Rattle.replay.specs.declared.out.Out.{Out}
use Rattle.replay.specs.Answers.{answer_bytes}
use Rattle.replay.specs.Entries.{Begins, Fails}
use Rattle.replay.specs.Lists.{new_lists}
use Rattle.replay.specs.Numbers.{eight_bytes}
use Rattle.replay.specs.Plays.{PlaysEntry}
use Rattle.replay.specs.Written.{AppendsOrNone, Appends}

-- board a goes from a to c, board b from b to d, the event lists from u to v
module _ {S R : Type 0} (m : Ghosts S) (n : Ghosts R) where
  -- an entry is played at its board, and answered by the bytes
  abbrev pub PlaysStep : Side → Entry → Board S m → Board S m → Board R n → Board R n → Lists → Lists → List ℕ → Type 0
  PlaysStep side.A e a c b d u v bytes = (x : Result Reply Refusal) × PlaysEntry m n e x a c b d u v × (bytes ≡ answer_bytes m x c)
  PlaysStep side.B e a c b d u v bytes = (x : Result Reply Refusal) × PlaysEntry n m e x b d a c u v × (bytes ≡ answer_bytes n x d)

  -- the same, with the writer
  abbrev pub PlaysStepInto : Side → Entry → Board S m → Board S m → Board R n → Board R n → Lists → Lists → Out → Out
      → Result (Unit {0}) Fault → Type 0
  PlaysStepInto s e a c b d u v o p r = (bytes : List ℕ) × PlaysStep s e a c b d u v bytes × AppendsOrNone o p bytes r

  module _ (xs : List ℕ) (a : Board S m) (b : Board R n) (u : Lists) where
    -- steps that the list begins with are played one after another, and answered by the bytes; of the steps the newest stands first, and
    -- the rest of the list stands behind it
    abbrev pub PlaysSteps : List Step → List ℕ → Board S m → Board R n → Lists → List ℕ → Type 0
    PlaysSteps [] rest c d v bytes = (rest ≡ xs) × (c ≡ a) × (d ≡ b) × (v ≡ u) × (bytes ≡ [])
    PlaysSteps (s ∷ ss) rest c d v bytes =
        (before : List ℕ) × (g : Board S m) × (h : Board R n) × (w : Lists) × (old : List ℕ) × (more : List ℕ)
        × PlaysSteps ss before g h w old
        × Begins before s rest
        × PlaysStep s.side s.entry g c h d w v more × (bytes ≡ old ++ more)

    -- a fault stands behind the steps that were played
    abbrev pub StopsAtFault : Fault → List Step → Board S m → Board R n → Lists → List ℕ → Type 0
    StopsAtFault f ss c d v bytes = (rest : List ℕ) × PlaysSteps ss rest c d v bytes × Fails rest f

    -- how a list ends that is answered within so much room: it is played to its end; or up to a fault; or up to a step that is played
    -- behind those answered, and whose own answer has no room
    abbrev pub EndsList : Result (Unit {0}) Fault → List Step → Board S m → Board R n → Lists → List ℕ → ℕ → Type 0
    EndsList (Ok z) ss c d v bytes room = PlaysSteps ss [] c d v bytes
    EndsList (Err Unknown) ss c d v bytes room = StopsAtFault Unknown ss c d v bytes
    EndsList (Err CutShort) ss c d v bytes room = StopsAtFault CutShort ss c d v bytes
    EndsList (Err Operand) ss c d v bytes room = StopsAtFault Operand ss c d v bytes
    EndsList (Err NoRoom) ss c d v bytes room =
        (s : Step) × (before : List ℕ) × (rest : List ℕ) × (g : Board S m) × (h : Board R n) × (w : Lists) × (more : List ℕ)
        × PlaysSteps ss before g h w bytes
        × Begins before s rest × PlaysStep s.side s.entry g c h d w v more × (room < length (bytes ++ more))

    -- the same, with the writer
    abbrev pub ReplaysInto : Board S m → Board R n → Lists → Out → Out → Result (Unit {0}) Fault → Type 0
    ReplaysInto c d v o p r =
        (ss : List Step) × (bytes : List ℕ) × EndsList r ss c d v bytes (length o.bytes.now - o.len) × Appends o p bytes

  -- a list is played against two new boards and new event lists, and answered within so much room by the bytes
  pub record IsAnsweredBy (xs : List ℕ) (room : ℕ) (bytes : List ℕ) (r : Result (Unit {0}) Fault) : Type 0 where
    pub board_a : Board S m
    pub board_b : Board R n
    pub new_a : IsReachedBy m [] board_a
    pub new_b : IsReachedBy n [] board_b
    pub last_a : Board S m
    pub last_b : Board R n
    pub last_lists : Lists
    pub steps : List Step
    pub ended : EndsList xs board_a board_b new_lists r steps last_a last_b last_lists bytes room

  -- the answers, so many bytes, stand at the beginning of the room
  abbrev pub FillsRoom : List ℕ → List ℕ → List ℕ → ℕ → Result (Unit {0}) Fault → Type 0
  FillsRoom xs room last count r =
      (bytes : List ℕ) × IsAnsweredBy xs (length room) bytes r × (length last ≡ length room) × (count ≡ length bytes)
      × (take count last ≡ bytes)

  -- the answers stand behind 8 bytes that say how many they are
  abbrev pub AnswersList : List ℕ → List ℕ → List ℕ → Result (Unit {0}) Fault → Type 0
  AnswersList xs out last r =
      (bytes : List ℕ) × IsAnsweredBy xs (length out - 8) bytes r × (length last ≡ length out)
      × (take (8 + length bytes) last ≡ eight_bytes (length bytes) ++ bytes)
