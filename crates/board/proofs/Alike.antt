-- Two boards on which a gate has one own list.
use Rattle.std.proofs.Common.{◌≡◌, ℕ, suc, ◌<◌, ◌≤◌, max, false, List, ℤ, pos, negsuc, sym, refl, ap, ◌∙◌, arith}
use Rattle.std.proofs.lemmas.Int.{ints}
use Rattle.stage.specs.declared.Stage.{Ghosts}
use Rattle.stage.specs.Quantize.{quantize}
use Rattle.stage.specs.Pairs.{Pairs, quantized_pair}
use Rattle.stage.proofs.Quantizing.{quantized_size_near}
use Rattle.gate.specs.Gates.{fresh_gate}
use Rattle.board.specs.declared.board.Board.{Board}
use Rattle.board.specs.Own.{gate_by_own_list}
use Rattle.board.specs.Acts.{state_of, gate_of, Act}
use Rattle.board.specs.Runs.{axis_pair, given_pairs_after, quantized_pairs, IsReachedBy}
use Rattle.board.specs.Isolation.{own_list, book, DifferByLessThan, FollowsBook, IsIsolated}
use Rattle.board.proofs.Tables.{by_two}
use Rattle.board.proofs.Lists.{gate_by_own_list_is, entry_answers, own_answers_are, display, displayed}
use Rattle.board.proofs.Books.{booked}

-- what two steps keep of one number lies less than the larger step apart
pub quantize_near : (m n : ℕ) → 1 ≤ m → 1 ≤ n → (x : ℤ) → DifferByLessThan (max m n) (quantize m x) (quantize n x)
unfolding quantize
quantize_near m n a b (pos x) =
    let p = quantized_size_near m x a in
    let q = quantized_size_near n x b in
    record { below = omega (arith, ints); above = omega (arith, ints) }
quantize_near m n a b (negsuc x) =
    let p = quantized_size_near m (suc x) a in
    let q = quantized_size_near n (suc x) b in
    record { below = omega (arith, ints); above = omega (arith, ints) }

axis_pair_quantized : (step : ℕ) (p : Pairs) (k : ℕ) → k < 2 → axis_pair (quantized_pairs step p) k ≡ quantized_pair step (axis_pair p k)
axis_pair_quantized step p = by_two (λ k. axis_pair (quantized_pairs step p) k ≡ quantized_pair step (axis_pair p k)) refl refl

module _ {S : Type 0} (m : Ghosts S) (b : Board S m) (h : List Act) (k : ℕ) (l : k < 2) (c : IsReachedBy m h b) where
  gate_is : gate_of (state_of b.table) k ≡ gate_by_own_list (own_list k h)
  gate_is = ap (λ s. gate_of s k) c.state ∙ gate_by_own_list_is k l h

  pair_is : axis_pair (m.pairs b.stage) k ≡ quantized_pair m.STEP (display (own_list k h))
  pair_is =
      ap (λ p. axis_pair p k) c.pairs ∙ (axis_pair_quantized m.STEP (given_pairs_after h) k l ∙ ap (quantized_pair m.STEP) (displayed k l h))

  active_is : (gate_of (state_of b.table) k).active ≡ (book (own_list k h)).latched
  active_is = ap (λ g. g.active) gate_is ∙ (booked (own_list k h)).latched

-- of one board
pub booked_board : {S : Type 0} (m : Ghosts S) (b : Board S m) → FollowsBook m b
booked_board m b k l h c = active_is m b h k l c

-- of two
pub isolated : {S R : Type 0} (m : Ghosts S) (b : Board S m) (n : Ghosts R) (d : Board R n) → 1 ≤ m.STEP → 1 ≤ n.STEP → IsIsolated m b n d
isolated m b n d low low' k l h i came came' e =
    let x = pair_is m b h k l came in
    let y = pair_is n d i k l came' ∙ ap (λ es. quantized_pair n.STEP (display es)) (sym e) in
    let near = λ (z : ℤ). quantize_near m.STEP n.STEP low low' z in
    record {
      record_same = gate_is m b h k l came ∙ (ap gate_by_own_list e ∙ sym (gate_is n d i k l came'));
      answers_same = own_answers_are k l h ∙ (ap (λ es. entry_answers k es (fresh_gate false)) e ∙ sym (own_answers_are k l i));
      pairs_same = λ s. x ∙ (ap (λ z. quantized_pair z (display (own_list k h))) s ∙ sym y);
      near_phase_a = rw (x, y) (near (display (own_list k h)).0);
      near_phase_b = rw (x, y) (near (display (own_list k h)).1);
      latched = active_is m b h k l came;
    }
