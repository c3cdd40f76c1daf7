-- A sound record: every register, the positions and the velocity are in their ranges. The record itself stays plain, since a board holds
-- two in an array of its own plain table and carries the proof for both; so each call that changes a record says that it keeps it sound.
use Rattle.std.specs.Prelude.{◌^◌, ◌<◌, ◌≤◌, unsigned_abs}
use Rattle.motion.specs.Course.{IsWithin}
use Rattle.gate.specs.declared.gate.Gate.{Gate}
use Rattle.gate.specs.declared.gate.Motion.{Motion}
use Rattle.gate.specs.declared.gate.Powers.{Powers}
use Rattle.gate.specs.declared.profile.Profile.{Profile}

-- no acceleration is 0
pub record IsSoundProfile (p : Profile) : Type 0 where
  pub destination : IsWithin (2 ^ 30) p.destination
  pub velocity : p.velocity < 2 ^ 30
  pub acceleration : IsWithin (2 ^ 30) p.acceleration
  pub nonzero : 1 ≤ unsigned_abs p.acceleration

pub record IsSoundPowers (p : Powers) : Type 0 where
  pub buffered : p.buffered ≤ 32767
  pub active : p.active ≤ 32767

pub record IsSoundMotion (m : Motion) : Type 0 where
  pub target : IsWithin (2 ^ 46) m.target
  pub velocity : unsigned_abs m.velocity < 2 ^ 30

pub record IsSound (g : Gate) : Type 0 where
  pub buffered : IsSoundProfile g.buffered
  pub active : IsSoundProfile g.active
  pub powers : IsSoundPowers g.powers
  pub motion : IsSoundMotion g.motion
  pub actual : IsWithin (2 ^ 30) g.actual
