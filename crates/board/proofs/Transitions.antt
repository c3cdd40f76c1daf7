-- What the transitions of acts enter in the own list of a gate, walked once.
use Rattle.std.proofs.Common.{ℕ, ◌-◌, Bool, true, false, cond, eqb, ltb, List, [], ◌∷◌, Some, None, Option, Ok, Err, Result}
use Rattle.gate.specs.declared.orders.Order.{Order}
use Rattle.gate.specs.declared.orders.Order.TheVariants.{Update}
use Rattle.gate.specs.declared.orders.WordOrder.{WordOrder}
use Rattle.gate.specs.declared.orders.LongOrder.{LongOrder}
use Rattle.gate.specs.declared.queries.Query.{Query}
use Rattle.board.specs.declared.command.GateName.{GateName}
use Rattle.board.specs.declared.port.Step.{Step}
use Rattle.board.specs.declared.port.Step.TheVariants as step
use Rattle.board.specs.declared.refusal.Refusal.{Refusal}
use Rattle.board.specs.declared.refusal.Refusal.TheVariants.{OutOfRange, NoRoom}
use Rattle.board.specs.Own.{OwnEntry, entry_order, entry_word_order, entry_long_order, entry_query, entry_status, entry_collect}
use Rattle.board.specs.Acts.{State, Transition, refuse, enter, is_gate_counted, named_gate, entry_transition, step_transition, multi_update, refuse_value, entries}

-- what a collect comes to, by what it is tested for
abbrev pub collect_transition : ℕ → Bool → Bool → Transition
collect_transition n known fits = cond known (cond fits (enter (n - 1) entry_collect) (refuse NoRoom)) (refuse OutOfRange)

-- P holds of no entry, of each order alone and of each question alone
pub record Ordinary (P : List OwnEntry → Type 0) : Type 0 where
  pub none : P []
  pub orders : (o : Order) → P (entry_order o ∷ [])
  pub words : (o : WordOrder) (w : ℕ) → P (entry_word_order o w ∷ [])
  pub longs : (o : LongOrder) (high low : ℕ) → P (entry_long_order o high low ∷ [])
  pub queries : (q : Query) → P (entry_query q ∷ [])
  pub statuses : (w : GateName) → P (entry_status w ∷ [])

-- then it holds of all that comes about at the port, and of an entry that may come about, where it holds of that alone
module _ {P : List OwnEntry → Type 0} (o : Ordinary P) where
  pub by_one : (t : Bool) (e : OwnEntry) → P (e ∷ []) → P (cond t (e ∷ []) [])
  by_one true e p = p
  by_one false e p = o.none

  pub by_if : (k : ℕ) (j : Option ℕ) (e : OwnEntry) → P (e ∷ []) → P (entries k (entry_transition j e))
  by_if k (Some j) e p = by_one (eqb j k) e p
  by_if k None e p = o.none

  -- of what the port found
  pub by_step : (k : ℕ) (s : State) (r : Result Step Refusal) → P (entries k (step_transition s r))
  by_step k s (Err r) = o.none
  by_step k s (Ok step.Wait) = o.none
  by_step k s (Ok (step.Status w)) = by_if k (named_gate s w) (entry_status w) (o.statuses w)
  by_step k s (Ok (step.Ask q)) = by_one (eqb s.current k) (entry_query q) (o.queries q)
  by_step k s (Ok (step.Run n)) = by_one (eqb s.current k) (entry_order n) (o.orders n)
  by_step k s (Ok (step.Word n w)) = by_one (eqb s.current k) (entry_word_order n w) (o.words n w)
  by_step k s (Ok (step.Long n high low)) = by_one (eqb s.current k) (entry_long_order n high low) (o.longs n high low)
  by_step k s (Ok (step.Gates w)) = by_gates (ltb w 4)
    where
      by_gates : (t : Bool) → P (entries k (cond t (multi_update w) refuse_value))
      by_gates true = by_one (is_gate_counted w k) (entry_order Update) (o.orders Update)
      by_gates false = o.none
  by_step k s (Ok (step.Give w)) = o.none
