-- What a writer leaves.
use Rattle.std.specs.Prelude.{◌≡◌, ℕ, ◌+◌, ◌<◌, ◌≤◌, List, ◌++◌, length, take, Ok, Err, Result}
use Rattle.replay.specs.declared.fault.Fault.{Fault}
use Rattle.replay.specs.declared.fault.Fault.TheVariants.{NoRoom}
use Rattle.replay.specs.declared.out.Out.{Out}

-- there is room for so many bytes more
abbrev pub HasRoom : Out → ℕ → Type 0
HasRoom o n = o.len + n ≤ length o.bytes.now

-- bytes were written behind those that stood
pub record Appends (o p : Out) (more : List ℕ) : Type 0 where
  pub len : p.len ≡ o.len + length more
  pub size : length p.bytes.now ≡ length o.bytes.now
  pub said : take p.len p.bytes.now ≡ take o.len o.bytes.now ++ more
  pub lent : p.bytes.ghost_name ≡ o.bytes.ghost_name

-- there was no room for them, and nothing was written
pub record HasNoRoom (o p : Out) (more : List ℕ) : Type 0 where
  pub short : length o.bytes.now < o.len + length more
  pub len : p.len ≡ o.len
  pub bytes : p.bytes.now ≡ o.bytes.now
  pub lent : p.bytes.ghost_name ≡ o.bytes.ghost_name

-- whole bytes, or none
abbrev pub AppendsOrNone : Out → Out → List ℕ → Result (Unit {0}) Fault → Type 0
AppendsOrNone o p more (Ok u) = Appends o p more
AppendsOrNone o p more (Err f) = (f ≡ NoRoom) × HasNoRoom o p more
