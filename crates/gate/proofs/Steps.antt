-- The steps of a cycle, one after the other.
use Rattle.std.proofs.Common.{◌≡◌, ℕ, ◌≤◌, max, Bool, true, false, cond, not, ◌&&◌, ◌||◌, eqb, ℤ, pos, ◌-ℤ◌, nat_abs, sym, refl, ap, ◌∙◌, arith}
use Rattle.std.proofs.lemmas.Bool.Decides.{nat_tests}
use Rattle.motion.proofs.Velocities.{trapezoid_size, trapezoid_step, cruise_size, cruise_step}
use Rattle.motion.specs.Course.{next_target, next_actual, is_crossing_end, distance_to, microsteps}
use Rattle.gate.specs.declared.gate.Gate.{Gate}
use Rattle.gate.specs.declared.inputs.Inputs.{Inputs}
use Rattle.gate.specs.declared.gate.Motion.{Motion}
use Rattle.gate.specs.declared.profile.ProfileMode.{ProfileMode}
use Rattle.gate.specs.declared.profile.ProfileMode.TheVariants.{Trapezoidal, Velocity}
use Rattle.gate.specs.Cycles.{tick, add_count, with_limits, is_tripping, trip, is_condition_met, with_breakpoint_reached, is_breakpoint_met, meet, profile_velocity, next_velocity, advance, has_arrived, is_at_rest, settle, cycle}
use Rattle.gate.specs.Clock.{clock_tick, time}
use Rattle.gate.specs.Gates.{latch, halted_motion}
use Rattle.gate.specs.Laws.{RespectsProfile, StepsInOrder}

-- the code's steps make a cycle
pub chained : (i : Inputs) (g g1 g2 g3 g4 g5 g6 : Gate) → g1 ≡ tick g → g2 ≡ add_count i.count g1 → g3 ≡ trip i g2 → g4 ≡ meet i.home g3
    → g5 ≡ advance g4 → g6 ≡ settle g5 → g6 ≡ cycle i g
chained i g g1 g2 g3 g4 g5 g6 e1 e2 e3 e4 e5 e6 =
    e6 ∙ ap settle (e5 ∙ ap advance (e4 ∙ ap (meet i.home) (e3 ∙ ap (trip i) (e2 ∙ ap (add_count i.count) e1))))

-- what neither a mark nor a latch changes, a breakpoint leaves
pub meet_keeps : {A : Type 0} (f : Gate → A) (home : Bool) (g : Gate) → f (with_breakpoint_reached g) ≡ f g
    → f (latch (with_breakpoint_reached g)) ≡ f g → f (meet home g) ≡ f g
meet_keeps f home g m l = by (is_breakpoint_met home g) g.breakpoint.auto
  where
    by : (b c : Bool) → f (cond b (cond c (latch (with_breakpoint_reached g)) (with_breakpoint_reached g)) g) ≡ f g
    by true true = l
    by true false = m
    by false c = refl

-- what a stop does not change, the limits leave
stop_keeps : {A : Type 0} (f : Motion → A) (t : Bool) (m : Motion) → f (halted_motion m) ≡ f m → f (cond t (halted_motion m) m) ≡ f m
stop_keeps f true m e = e
stop_keeps f false m e = refl

profile_velocity_size : (m : ProfileMode) (g : Gate) → nat_abs (profile_velocity m g) ≤ max (nat_abs g.motion.velocity) g.active.velocity
profile_velocity_size Velocity g = cruise_size g.motion.velocity g.active.velocity g.active.acceleration (profile_velocity Velocity g) refl
profile_velocity_size Trapezoidal g =
    trapezoid_size g.motion.velocity g.active.velocity (nat_abs g.active.acceleration) (distance_to g.active.destination g.motion.target) (profile_velocity Trapezoidal g) refl

profile_velocity_step : (m : ProfileMode) (g : Gate) → nat_abs (profile_velocity m g -ℤ g.motion.velocity) ≤ nat_abs g.active.acceleration
profile_velocity_step Velocity g = cruise_step g.motion.velocity g.active.velocity g.active.acceleration (profile_velocity Velocity g) refl
profile_velocity_step Trapezoidal g =
    trapezoid_step g.motion.velocity g.active.velocity (nat_abs g.active.acceleration) (distance_to g.active.destination g.motion.target) (profile_velocity Trapezoidal g) refl

-- a gate that halts has no velocity
halt_size : (halted : Bool) (z : ℤ) (n : ℕ) → nat_abs z ≤ n → nat_abs (cond halted (pos 0) z) ≤ n
halt_size true z n h = omega arith
halt_size false z n h = h

halt_step : (halted : Bool) (y z : ℤ) (n : ℕ) → halted ≡ false → nat_abs (z -ℤ y) ≤ n → nat_abs (cond halted (pos 0) z -ℤ y) ≤ n
halt_step true y z n e h = let no : ◌≡◌ {A = ℕ} 0 1 = cc in absurd (omega arith)
halt_step false y z n e h = h

-- limits that trip slow the gate to nothing
slowed : (t : Bool) (m : Motion) → nat_abs (cond t (halted_motion m) m).velocity ≤ nat_abs m.velocity
slowed true m = omega arith
slowed false m = omega arith

-- a gate that runs on after the breakpoint was tripped by no limit
unhalted : (p n home : Bool) (i : Inputs) (g : Gate) → (meet home (with_limits p n i g)).motion.halted ≡ false
    → (with_limits p n i g).motion.velocity ≡ g.motion.velocity
unhalted p n home i g h = by (is_breakpoint_met home (with_limits p n i g)) g.breakpoint.auto p n h
  where
    by : (b c p n : Bool)
        → (cond b (cond c (latch (with_breakpoint_reached (with_limits p n i g))) (with_breakpoint_reached (with_limits p n i g))) (with_limits p n i g)).motion.halted ≡ false → (with_limits p n i g).motion.velocity ≡ g.motion.velocity
    by b c false false h = refl
    by b c true n h = grind (arith, nat_tests)
    by b c false true h = grind (arith, nat_tests)

-- a breakpoint that is met sets its bit
meet_reached : (home : Bool) (g : Gate) → (meet home g).events.breakpoint_reached ≡ (g.events.breakpoint_reached || is_breakpoint_met home g)
meet_reached home g = by (is_breakpoint_met home g) g.breakpoint.auto g.events.breakpoint_reached refl
  where
    by : (b c r : Bool) → g.events.breakpoint_reached ≡ r
        → (cond b (cond c (latch (with_breakpoint_reached g)) (with_breakpoint_reached g)) g).events.breakpoint_reached ≡ (r || b)
    by true true true e = refl
    by true true false e = refl
    by true false true e = refl
    by true false false e = refl
    by false c true e = e
    by false c false e = e

has_arrived_settle : (m : ProfileMode) (g : Gate) → has_arrived m (settle g) ≡ has_arrived m g
has_arrived_settle Velocity g = refl
has_arrived_settle Trapezoidal g = refl

-- to note that a gate rests does not change whether it does
at_rest_settle : (g : Gate) → is_at_rest (settle g) ≡ is_at_rest g
at_rest_settle g =
    ap (λ a. eqb (nat_abs g.motion.velocity) 0 && (g.motion.halted || (eqb g.active.velocity 0 || a))) (has_arrived_settle g.active.mode g)

module _ (i : Inputs) (g : Gate) where
  early : Gate
  early = add_count i.count (tick g)

  -- whether a limit trips, the positive and the negative one
  plus : Bool
  plus = is_tripping i.positive g.detectors.positive g.events

  minus : Bool
  minus = not plus && is_tripping i.negative g.detectors.negative g.events

  mid : Gate
  mid = trip i early

  broken : Gate
  broken = meet i.home mid

  broken_velocity : broken.motion.velocity ≡ mid.motion.velocity
  unfolding broken
  broken_velocity = meet_keeps (λ x. x.motion.velocity) i.home mid refl refl

  -- the law of velocities
  pub cycle_paced : RespectsProfile g (cycle i g)
  unfolding early plus minus mid broken
  cycle_paced =
      let v = profile_velocity_size broken.active.mode broken in
      let size = halt_size broken.motion.halted (profile_velocity broken.active.mode broken) _ v in
      record {
        size = omega (arith, size, ap nat_abs broken_velocity, slowed (plus || minus) g.motion);
        step = λ e.
            let same = broken_velocity ∙ unhalted plus minus i.home i early e in
            let s = halt_step broken.motion.halted broken.motion.velocity (profile_velocity broken.active.mode broken) _ e (profile_velocity_step broken.active.mode broken) in
            omega (arith, s, ap (λ y. nat_abs (next_velocity broken -ℤ y)) same);
      }

  broken_target : broken.motion.target ≡ g.motion.target
  unfolding early plus minus mid broken
  broken_target = meet_keeps (λ x. x.motion.target) i.home mid refl refl ∙ stop_keeps (λ m. m.target) (plus || minus) g.motion refl

  broken_rested : broken.motion.rested ≡ g.motion.rested
  unfolding early plus minus mid broken
  broken_rested = meet_keeps (λ x. x.motion.rested) i.home mid refl refl ∙ stop_keeps (λ m. m.rested) (plus || minus) g.motion refl

  -- the law of the steps' order
  pub cycle_ordered : StepsInOrder i g (cycle i g)
  unfolding early plus minus mid broken
  cycle_ordered =
      let wrapped = meet_keeps (λ x. x.events.wrapped) i.home mid refl refl in
      let complete = meet_keeps (λ x. x.events.complete) i.home mid refl refl in
      let v = next_velocity broken in
      record {
        limits = meet_keeps (λ x. x.events.positive) i.home mid refl refl;
        breaks =
            meet_reached i.home mid
            ∙ ap (λ t. g.events.breakpoint_reached || is_condition_met g.breakpoint.mode g.breakpoint.point (time (clock_tick g.clock)) (microsteps t) (next_actual g.actual i.count) g.events.complete i.home)
            (stop_keeps (λ m. m.target) (plus || minus) g.motion refl);
        moves = ap (λ t. next_target t v) broken_target;
        wraps = ap (λ w. w || is_crossing_end broken.motion.target v) wrapped ∙ ap (λ t. g.events.wrapped || is_crossing_end t v) broken_target;
        rests = sym (at_rest_settle (advance broken));
        completes =
            ap (λ x. x || (is_at_rest (advance broken) && not broken.motion.rested)) complete
            ∙ (ap (λ x. g.events.complete || (is_at_rest (advance broken) && not x)) broken_rested
            ∙ ap (λ x. g.events.complete || (x && not g.motion.rested)) (sym (at_rest_settle (advance broken))));
      }
