-- Packets that are sent or fetched, act by act.
use Rattle.std.proofs.Common.{ℕ, zero, suc, ◌+◌, ◌<◌, List, [], ◌∷◌, ◌++◌, length, map, replicate, take, drop, get_or, slice_set, Ok, Err, Result, refl, inl, inr, sym, subst, arith, add-one}
use Rattle.std.proofs.lemmas.List.{drop_more, take_more_set, map-append}
use Rattle.stage.specs.declared.Stage.{Ghosts}
use Rattle.board.specs.declared.board.Board.{Board}
use Rattle.board.specs.declared.refusal.Refusal.{Refusal}
use Rattle.board.specs.Own.{Answer, answer_done, answer_refused, answer_word}
use Rattle.board.specs.Acts.{Act, act_read, act_write}
use Rattle.board.specs.Runs.{Performs}
use Rattle.script.specs.Packets.{Sends, PerformsInTurn, StopsAtRefusal}

module _ {S : Type 0} (m : Ghosts S) where
  -- an act that is accepted, and then the rest
  pub sent_after : {T : Type 0} (a : Act) (acts : List Act) (r : Result T Refusal) (x y z : Board S m) → Performs m a answer_done x y
      → Sends m acts r y z → Sends m (a ∷ acts) r x z
  sent_after a acts (Ok u) x y z p q = (y, p, q)
  sent_after a acts (Err e) x y z p q = inr (y, answer_done, refl, p, q)

  -- the next word is written, and then the rest
  pub sent_from : {T : Type 0} (words : List ℕ) (i : ℕ) (r : Result T Refusal) (x y z : Board S m) → i < length words
      → Performs m (act_write (get_or words i 0)) answer_done x y → Sends m (map act_write (drop (i + 1) words)) r y z
      → Sends m (map act_write (drop i words)) r x z
  sent_from words i r x y z l p q = rw (drop_more words i 0 l) (sent_after (act_write (get_or words i 0)) (map act_write (drop (i + 1) words)) r x y z p q)

  read_more : (i : ℕ) (xs : List Answer) (w : ℕ) (x y z : Board S m) → PerformsInTurn m (replicate i act_read) xs x y
      → Performs m act_read (answer_word w) y z → PerformsInTurn m (replicate (suc i) act_read) (xs ++ (answer_word w ∷ [])) x z
  read_more zero [] w x y z p q = (z, subst (λ (b : Board S m). Performs m act_read (answer_word w) b z) (sym p) q, refl)
  read_more zero (v ∷ xs) w x y z p q = elim p [ ]
  read_more (suc i) [] w x y z p q = elim p [ ]
  read_more (suc i) (v ∷ xs) w x y z p q = (p.0, p.1, read_more i xs w p.0 y z p.2 q)

  -- one more word is read
  pub through_more : (words : List ℕ) (i w : ℕ) (x y z : Board S m) → i < length words
      → PerformsInTurn m (replicate i act_read) (map answer_word (take i words)) x y → Performs m act_read (answer_word w) y z
      → PerformsInTurn m (replicate (i + 1) act_read) (map answer_word (take (i + 1) (slice_set words i w))) x z
  through_more words i w x y z l p q =
      rw (take_more_set words i w l, map-append answer_word (take i words) (w ∷ []), add-one) (read_more i (map answer_word (take i words)) w x y z p q)

  -- the next word is refused
  pub stopped_at : (i n : ℕ) (xs : List ℕ) (e : Refusal) (x y z : Board S m) → i < n
      → PerformsInTurn m (replicate i act_read) (map answer_word xs) x y → Performs m act_read (answer_refused e) y z
      → StopsAtRefusal m (replicate n act_read) e x z
  stopped_at i zero xs e x y z l p q = absurd (omega arith)
  stopped_at zero (suc n) [] e x y z l p q = inl (subst (λ (b : Board S m). Performs m act_read (answer_refused e) b z) (sym p) q)
  stopped_at zero (suc n) (v ∷ xs) e x y z l p q = elim p [ ]
  stopped_at (suc i) (suc n) [] e x y z l p q = elim p [ ]
  stopped_at (suc i) (suc n) (v ∷ xs) e x y z l p q = inr (p.0, answer_word v, refl, p.1, stopped_at i n xs e p.0 y z (omega arith) p.2 q)
