-- What a search keeps while it asks.
use Rattle.std.specs.Prelude.{◌≡◌}
use Rattle.motion.specs.declared.search.Search.{Search}
use Rattle.motion.specs.Tester.{TestAlike}

-- the new search goes on for the same answer: its floor and its top stay, and its tester tests as before
pub record SameSearch (old new : Search) : Type 0 where
  pub floor : new.floor ≡ old.floor
  pub top : new.top ≡ old.top
  pub tests : TestAlike old.tester new.tester
