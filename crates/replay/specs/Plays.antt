-- What an entry does to the boards and to the event lists, and what is answered to it.
use Rattle.std.specs.Prelude.{◌≡◌, ◌+◌, true, false, Some, None, Ok, Err, Result, slice_get}
use Rattle.ring.specs.Places.{read_at, without_oldest}
use Rattle.stage.specs.declared.Stage.{Ghosts}
use Rattle.board.specs.declared.board.Board.{Board}
use Rattle.board.specs.declared.refusal.Refusal.{Refusal}
use Rattle.board.specs.Own as own
use Rattle.board.specs.Acts.{Act, act_command, act_write, act_read, act_cycle, act_reset, act_take, act_collect, list_after_collect}
use Rattle.board.specs.Runs.{Performs, board_state}
use Rattle.desk.specs.Closes.{ClosesSlip, ClosesElsewhere}
use Rattle.desk.specs.Runs.{RunsCycles}
use Rattle.replay.specs.declared.reply.Reply.{Reply}
use Rattle.replay.specs.declared.reply.Reply.TheVariants as reply
use Rattle.replay.specs.declared.entry.Closing.{Closing}
use Rattle.replay.specs.declared.entry.Entry.{Entry}
use Rattle.replay.specs.declared.entry.Entry.TheVariants.{Command, Write, Read, Cycle, Reset, Take, Close, CloseElsewhere, Look, Run, Collect, ReadAt, Remove}
use Rattle.replay.specs.declared.lists.Lists.{Lists}
use Rattle.replay.specs.Lists.{list_of, with_list}
use Rattle.replay.specs.Answers.{reply_of_read, reply_of_removed}

-- a board's answer to an act, as it is written; the words that a command fixes are read by entries of their own
abbrev pub replay_answer : own.Answer → Result Reply Refusal
replay_answer own.answer_done = Ok reply.Accepted
replay_answer (own.answer_refused e) = Err e
replay_answer (own.answer_word w) = Ok (reply.Word w)
replay_answer (own.answer_words w ws) = Ok reply.Accepted
replay_answer (own.answer_slip k) = Ok (reply.Slip (k + 1))

-- the entry's own board goes from a to c, the other one from b to d
module _ {S : Type 0} (m : Ghosts S) where
  abbrev pub PerformsAct : Act → Result Reply Refusal → Board S m → Board S m → Type 0
  PerformsAct act r a c = (x : own.Answer) × (r ≡ replay_answer x) × Performs m act x a c

  -- the slip of that gate was there and is closed, or it was not there
  abbrev pub PlaysClose : Closing → Result Reply Refusal → Board S m → Board S m → Type 0
  PlaysClose k (Ok reply.Accepted) a c = ClosesSlip m k.gate k.word true a c
  PlaysClose k (Ok (reply.Word w)) a c = ⊥
  PlaysClose k (Ok (reply.Slip g)) a c = ⊥
  PlaysClose k (Ok reply.NoSlip) a c = ClosesSlip m k.gate k.word false a c
  PlaysClose k (Ok reply.Look) a c = ⊥
  PlaysClose k (Ok (reply.Event x next)) a c = ⊥
  PlaysClose k (Ok (reply.Removed x)) a c = ⊥
  PlaysClose k (Ok reply.NoEvent) a c = ⊥
  PlaysClose k (Err e) a c = ⊥

module _ {S R : Type 0} (m : Ghosts S) (n : Ghosts R) where
  abbrev pub PlaysCloseElsewhere : Closing → Result Reply Refusal → Board S m → Board S m → Board R n → Board R n → Type 0
  PlaysCloseElsewhere k (Ok reply.Accepted) a c b d = ClosesElsewhere m n k.gate k.word (Some (Ok tt)) a c b d
  PlaysCloseElsewhere k (Ok (reply.Word w)) a c b d = ⊥
  PlaysCloseElsewhere k (Ok (reply.Slip g)) a c b d = ⊥
  PlaysCloseElsewhere k (Ok reply.NoSlip) a c b d = ClosesElsewhere m n k.gate k.word None a c b d
  PlaysCloseElsewhere k (Ok reply.Look) a c b d = ⊥
  PlaysCloseElsewhere k (Ok (reply.Event x next)) a c b d = ⊥
  PlaysCloseElsewhere k (Ok (reply.Removed x)) a c b d = ⊥
  PlaysCloseElsewhere k (Ok reply.NoEvent) a c b d = ⊥
  PlaysCloseElsewhere k (Err e) a c b d = ClosesElsewhere m n k.gate k.word (Some (Err e)) a c b d

  -- the event lists go from u to v
  abbrev pub PlaysEntry : Entry → Result Reply Refusal → Board S m → Board S m → Board R n → Board R n → Lists → Lists → Type 0
  PlaysEntry (Command code) r a c b d u v = PerformsAct m (act_command code) r a c × (d ≡ b) × (v ≡ u)
  PlaysEntry (Write w) r a c b d u v = PerformsAct m (act_write w) r a c × (d ≡ b) × (v ≡ u)
  PlaysEntry Read r a c b d u v = PerformsAct m act_read r a c × (d ≡ b) × (v ≡ u)
  PlaysEntry (Cycle i j) r a c b d u v = PerformsAct m (act_cycle i j) r a c × (d ≡ b) × (v ≡ u)
  PlaysEntry Reset r a c b d u v = PerformsAct m act_reset r a c × (d ≡ b) × (v ≡ u)
  PlaysEntry Take r a c b d u v = PerformsAct m act_take r a c × (d ≡ b) × (v ≡ u)
  PlaysEntry (Close k) r a c b d u v = PlaysClose m k r a c × (d ≡ b) × (v ≡ u)
  PlaysEntry (CloseElsewhere k) r a c b d u v = PlaysCloseElsewhere k r a c b d × (v ≡ u)
  PlaysEntry Look r a c b d u v = (r ≡ Ok reply.Look) × (c ≡ a) × (d ≡ b) × (v ≡ u)
  PlaysEntry (Run k) r a c b d u v = (r ≡ Ok reply.Accepted) × RunsCycles m k a c × (d ≡ b) × (v ≡ u)
  PlaysEntry (Collect gate name) r a c b d u v =
      PerformsAct m (act_collect gate (list_of u name)) r a c × (d ≡ b)
      × (v ≡ with_list u name (list_after_collect (board_state a) gate (list_of u name)))
  PlaysEntry (ReadAt name place) r a c b d u v =
      (r ≡ Ok (reply_of_read (read_at (list_of u name) place))) × (c ≡ a) × (d ≡ b) × (v ≡ u)
  PlaysEntry (Remove name) r a c b d u v =
      (r ≡ Ok (reply_of_removed (slice_get (list_of u name).records 0))) × (c ≡ a) × (d ≡ b)
      × (v ≡ with_list u name (without_oldest (list_of u name) 1))
