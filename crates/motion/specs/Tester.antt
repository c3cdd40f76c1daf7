-- What a contract sees of a tester, and what a question makes of it.
use Rattle.std.specs.Prelude.{◌≡◌, ℕ, ◌+◌, Option, Some, None, unwrap_or}

-- the rate and the distance by which it tests speeds, the first speed that it was asked, if any, and how many it was asked
pub record TesterState : Type 0 where
  pub rate : ℕ
  pub distance : ℕ
  pub first : Option ℕ
  pub asked : ℕ

-- a tester that was asked nothing
abbrev pub new_tester : ℕ → ℕ → TesterState
new_tester rate distance = record { rate = rate; distance = distance; first = None; asked = 0 }

-- the tester after one speed more
abbrev pub with_question : TesterState → ℕ → TesterState
with_question t speed = record t { first = Some (unwrap_or t.first speed); asked = t.asked + 1 }

-- the new tester tests as the old one does
pub record TestAlike (old new : TesterState) : Type 0 where
  pub rate : new.rate ≡ old.rate
  pub distance : new.distance ≡ old.distance
