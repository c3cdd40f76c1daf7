-- Lists of acts that are performed, one after another.
use Rattle.std.proofs.Common.{◌≡◌, ℕ, Bool, true, false, ◌||◌, List, [], ◌∷◌, ◌++◌, append_assoc, sym, refl, ap, ◌∙◌}
use Rattle.stage.specs.declared.Stage.{Ghosts}
use Rattle.stage.specs.Pairs.{Pairs}
use Rattle.board.specs.declared.board.Board.{Board}
use Rattle.board.specs.Own.{Answer}
use Rattle.board.specs.Acts.{State, state_of, Act, state_after_act}
use Rattle.board.specs.Runs.{new_state, state_after, is_stage_act, shown_pairs, Performs}
use Rattle.board.specs.Sequences.{state_from, has_stage_act, pairs_from, PerformsAll}

-- from a new board they lead where its history leads
pub from_new : (acts : List Act) → state_from new_state acts ≡ state_after acts
from_new [] = refl
from_new (a ∷ acts) = ap (λ s. state_after_act s a) (from_new acts)

pub state_++ : (s : State) (late early : List Act) → state_from s (late ++ early) ≡ state_from (state_from s early) late
state_++ s [] early = refl
state_++ s (a ∷ late) early = ap (λ z. state_after_act z a) (state_++ s late early)

pub pairs_++ : (step : ℕ) (s : State) (late early : List Act) (p : Pairs)
    → pairs_from step s (late ++ early) p ≡ pairs_from step (state_from s early) late (pairs_from step s early p)
pairs_++ step s [] early p = refl
pairs_++ step s (a ∷ late) early p =
    ap (λ z. shown_pairs step z a (pairs_from step s (late ++ early) p)) (state_++ s late early)
    ∙ ap (shown_pairs step (state_from (state_from s early) late) a) (pairs_++ step s late early p)

left_no : (a b : Bool) → (a || b) ≡ false → a ≡ false
left_no true b h = h
left_no false b h = refl

right_no : (a b : Bool) → (a || b) ≡ false → b ≡ false
right_no true b h = cc
right_no false b h = h

late_no : (late early : List Act) → has_stage_act (late ++ early) ≡ false → has_stage_act late ≡ false
late_no [] early h = refl
late_no (a ∷ late) early h =
    ap (λ x. x || has_stage_act late) (left_no (is_stage_act a) _ h) ∙ late_no late early (right_no (is_stage_act a) _ h)

early_no : (late early : List Act) → has_stage_act (late ++ early) ≡ false → has_stage_act early ≡ false
early_no [] early h = h
early_no (a ∷ late) early h = early_no late early (right_no (is_stage_act a) _ h)

module _ {S : Type 0} (m : Ghosts S) where
  -- no act
  pub performed_none : (b : Board S m) → PerformsAll m [] b b
  performed_none b = record { state = refl; pairs = refl; stage = λ e. refl; history = λ h came. came }

  -- one act
  pub performed_one : (a : Act) (x : Answer) (b c : Board S m) → Performs m a x b c → PerformsAll m (a ∷ []) b c
  performed_one a x b c d =
      record { state = d.state; pairs = d.pairs; stage = λ e. d.stage (left_no (is_stage_act a) false e); history = d.history }

  -- one list after another
  pub performed_lists : (late early : List Act) (b c d : Board S m) → PerformsAll m early b c → PerformsAll m late c d
      → PerformsAll m (late ++ early) b d
  performed_lists late early b c d p q =
      let s = state_of b.table in
      record {
        state = q.state ∙ (ap (λ z. state_from z late) p.state ∙ sym (state_++ s late early));
        pairs =
            q.pairs
            ∙ (ap (λ z. pairs_from m.STEP z late (m.pairs c.stage)) p.state
            ∙ (ap (pairs_from m.STEP (state_from s early) late) p.pairs ∙ sym (pairs_++ m.STEP s late early (m.pairs b.stage))));
        stage = λ e. q.stage (late_no late early e) ∙ p.stage (early_no late early e);
        history = λ h came. rw append_assoc (q.history (early ++ h) (p.history h came));
      }

  -- one act after a list
  pub performed_then : (a : Act) (x : Answer) (early : List Act) (b c d : Board S m) → PerformsAll m early b c → Performs m a x c d
      → PerformsAll m (a ∷ early) b d
  performed_then a x early b c d p q = performed_lists (a ∷ []) early b c d p (performed_one a x c d q)
