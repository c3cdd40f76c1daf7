-- How what is noted of lots grows, step by step.
use Rattle.std.proofs.Common.{◌≡◌, ℕ, zero, suc, ◌+◌, ◌-◌, ◌<◌, Bool, true, false, List, [], ◌∷◌, ◌++◌, length, take, get_or, slice_set, Some, None, Option, Result, is_some, refl, ap, sym, subst, ◌∙◌, arith, add-one, append_assoc}
use Rattle.std.specs.Borrow.{Bor}
use Rattle.std.specs.Option.{option_copied}
use Rattle.std.proofs.lemmas.List.{take_more}
use Rattle.std.proofs.lemmas.Option.{slice_get-get_or}
use Rattle.std.proofs.lemmas.Grind.{common_steps}
use Rattle.stage.specs.declared.Stage.{Ghosts}
use Rattle.stage.specs.Pairs.{is_gate}
use Rattle.gate.specs.declared.gate.Gate.{Gate}
use Rattle.gate.specs.declared.inputs.Inputs.{Inputs}
use Rattle.ring.specs.Listing.{Listing}
use Rattle.board.specs.declared.board.Board.{Board}
use Rattle.board.specs.declared.collect.EventRecord.{EventRecord}
use Rattle.board.specs.declared.refusal.Refusal.{Refusal}
use Rattle.board.specs.Own.{answer_done, answer_slip}
use Rattle.board.specs.Acts.{act_cycle, act_take, gate_of, state_of}
use Rattle.board.specs.Runs.{Performs}
use Rattle.board.proofs.Slips.{taken_out}
use Rattle.desk.specs.Closes.{ClosesSlip}
use Rattle.script.specs.declared.line.Packet.{Packet}
use Rattle.script.specs.declared.reply.Reply.{Reply}
use Rattle.script.specs.Plays.{PlaysPacket}
use Rattle.host.specs.declared.lot.Lot.{Lot}
use Rattle.host.specs.declared.lot.Outcome.{Outcome}
use Rattle.host.specs.Lots.{outcome_after}
use Rattle.host.specs.Works.{WorkAnswers, AnswersPackets, Notes, Bench, CyclesOnce, RunsFor, IfSomething, SparesList, WorksInTurn, WorksLot, following_inputs, outcomes_after, lot_beside, with_answers, with_note}

-- a note is a write of the last outcome
pub last_noted_at : (g : Gate) (os : List Outcome) (k : ℕ) (d : Outcome) → length os ≡ suc k
    → outcomes_after g os ≡ slice_set os k (outcome_after (get_or os k d) g)
last_noted_at g [] k d e = absurd (omega arith)
last_noted_at g (o ∷ []) zero d e = refl
last_noted_at g (o ∷ []) (suc k) d e = absurd (omega arith)
last_noted_at g (o ∷ (p ∷ more)) zero d e = absurd (omega arith)
last_noted_at g (o ∷ (p ∷ more)) (suc k) d e = ap (λ xs. o ∷ xs) (last_noted_at g (p ∷ more) k d (omega arith))

-- one more answer is noted
pub noted_more : (x y : Notes) (rs : WorkAnswers) (r : Result Reply Refusal) (all : WorkAnswers) → y ≡ with_answers rs x
    → all ≡ y.answers ++ (r ∷ []) → record y { answers = all } ≡ with_answers (rs ++ (r ∷ [])) x
noted_more x y rs r all p q =
    ap (λ (it : WorkAnswers). record y { answers = it }) q
    ∙ ap (λ (z : Notes). record z { answers = z.answers ++ (r ∷ []) }) p
    ∙ ap (λ (it : WorkAnswers). record x { answers = it }) (append_assoc x.answers rs (r ∷ []))

-- and two
pub noted_two : (x : Notes) (r s v w : Result Reply Refusal) (one two : WorkAnswers) → one ≡ x.answers ++ (r ∷ []) → two ≡ one ++ (s ∷ [])
    → r ≡ v → s ≡ w → record x { answers = two } ≡ with_answers (v ∷ (w ∷ [])) x
noted_two x r s v w one two p q e f =
    let first = ap (λ (it : WorkAnswers). record x { answers = it }) (p ∙ ap (λ (a : Result Reply Refusal). x.answers ++ (a ∷ [])) e) in
    noted_more x (record x { answers = one }) (v ∷ []) w two first (q ∙ ap (λ (a : Result Reply Refusal). one ++ (a ∷ [])) f)

-- the place of a gate's number
gate_below : (n : ℕ) → is_gate n ≡ true → n - 1 < 2
gate_below n e = grind (arith, common_steps)

module _ {S : Type 0} (m : Ghosts S) where
  -- one more packet is answered
  pub answered_more : (ps : List Packet) (rs : WorkAnswers) (p : Packet) (r : Result Reply Refusal) (b c d : Board S m)
      → AnswersPackets m ps rs b c → ((n : ℕ) × PlaysPacket m p n r c d) → AnswersPackets m (ps ++ (p ∷ [])) (rs ++ (r ∷ [])) b d
  answered_more [] [] p r b c d q w = (d, w.0, subst (λ (x : Board S m). PlaysPacket m p w.0 r x d) (sym q) w.1, refl)
  answered_more [] (x ∷ rs) p r b c d q w = elim q [ ]
  answered_more (a ∷ ps) [] p r b c d q w = elim q [ ]
  answered_more (a ∷ ps) (x ∷ rs) p r b c d q w = (q.0, q.1, q.2, answered_more ps rs p r q.0 c d q.3 w)

  -- and so the next one of a list
  pub answered_next : (ps : List Packet) (i : ℕ) (d : Packet) (rs : WorkAnswers) (r : Result Reply Refusal) (x y z : Board S m)
      → i < length ps → AnswersPackets m (take i ps) rs x y → ((n : ℕ) × PlaysPacket m (get_or ps i d) n r y z)
      → AnswersPackets m (take (i + 1) ps) (rs ++ (r ∷ [])) x z
  answered_next ps i d rs r x y z l p w = rw (take_more ps i d l) (answered_more (take i ps) rs (get_or ps i d) r x y z p w)

  -- a slip just taken is closed
  pub closed_once_taken : (n w : ℕ) (y : Bool) (b c d : Board S m) → is_gate n ≡ true → Performs m act_take (answer_slip (n - 1)) b c
      → ClosesSlip m n w y c d → y ≡ true
  closed_once_taken n w true b c d g took closed = refl
  closed_once_taken n w false b c d g took closed =
      let out = taken_out (state_of b.table) (state_of c.table) (n - 1) (gate_below n g) took.answers took.state in
      let kept : (gate_of (state_of c.table) (n - 1)).slip ≡ false = closed.0 g in
      cc (out, kept)

  -- a cycle, by what was put to the gates and what was noted of them
  pub cycled_by : (s t : Bench m) (i j : Inputs) (g h p q : Gate) → Performs m (act_cycle i j) answer_done s.board t.board
      → i ≡ following_inputs g → g ≡ gate_of (state_of s.board.table) 0 → j ≡ following_inputs h → h ≡ gate_of (state_of s.board.table) 1
      → t.notes_one ≡ with_note p s.notes_one → p ≡ gate_of (state_of t.board.table) 0 → t.notes_two ≡ with_note q s.notes_two
      → q ≡ gate_of (state_of t.board.table) 1 → t.list ≡ s.list → t.reading ≡ s.reading → CyclesOnce m s t
  cycled_by s t i j g h p q performs i-is g-is j-is h-is notes_one p-is notes_two q-is list reading =
      let one : i ≡ following_inputs (gate_of (state_of s.board.table) 0) = i-is ∙ ap following_inputs g-is in
      let two : j ≡ following_inputs (gate_of (state_of s.board.table) 1) = j-is ∙ ap following_inputs h-is in
      record {
        performs =
            subst (λ (y : Inputs). Performs m (act_cycle (following_inputs (gate_of (state_of s.board.table) 0)) y) answer_done s.board t.board) two
            (subst (λ (x : Inputs). Performs m (act_cycle x j) answer_done s.board t.board) one performs);
        notes_one = notes_one ∙ ap (λ x. with_note x s.notes_one) p-is;
        notes_two = notes_two ∙ ap (λ x. with_note x s.notes_two) q-is;
        list = list;
        reading = reading;
      }

  -- no cycle, and one more
  pub run_none : (s : Bench m) → RunsFor m 0 s s
  unfolding RunsFor
  run_none s = refl

  pub run_more : (n : ℕ) (s u t : Bench m) → RunsFor m n s u → CyclesOnce m u t → RunsFor m (n + 1) s t
  unfolding RunsFor
  run_more n s u t p q = rw add-one (u, p, q)

  -- one more lot
  pub turns_more : (lots : List Lot) (lots_two : Option (List Lot)) (k : ℕ) (d : Lot) (beside : Option Lot) (s u t : Bench m)
      → k < length lots → beside ≡ lot_beside lots_two k → WorksInTurn m lots lots_two k s u → WorksLot m (get_or lots k d) beside u t
      → WorksInTurn m lots lots_two (k + 1) s t
  turns_more lots lots_two k d beside s u t l e p w =
      rw add-one (u, get_or lots k d, p, slice_get-get_or lots k d l, subst (λ (other : Option Lot). WorksLot m (get_or lots k d) other u t) e w)

  -- what is done for gate 2, by whether it has lots
  pub if_lots : (P : Notes → Board S m → Notes → Board S m → Type 0) (o : Option (Bor (List Lot))) (x y z : Notes) (b c d : Board S m) (l : Listing EventRecord)
      → is_some o ≡ true → z ≡ y → d ≡ c → P x b y c → IfSomething m (λ (lots : List Lot). SparesList m P) (option_copied o) x b l z d l
  if_lots P (Some lots) x y z b c d l e y-is c-is p =
      (subst (λ (v : Notes). P x b v d) (sym y-is) (subst (λ (v : Board S m). P x b y v) (sym c-is) p), refl)
  if_lots P None x y z b c d l e y-is c-is p = cc

  pub if_no_lots : (P : Notes → Board S m → Notes → Board S m → Type 0) (o : Option (Bor (List Lot))) (x y : Notes) (b d : Board S m) (l : Listing EventRecord)
      → is_some o ≡ false → y ≡ x → d ≡ b → IfSomething m (λ (lots : List Lot). SparesList m P) (option_copied o) x b l y d l
  if_no_lots P (Some lots) x y b d l e p q = cc
  if_no_lots P None x y b d l e p q = (p, q, refl)
