-- What loads a buffered register: which values fit it, and the record after it.
use Rattle.std.specs.Prelude.{◌^◌, Bool, true, not, ◌&&◌, ℤ, pos, neg_ℤ, ◌==◌, int_le, int_lt, nat_le, nat_lt, unsigned_abs}
use Rattle.gate.specs.declared.gate.Gate.{Gate}
use Rattle.gate.specs.declared.load.Load.{Load}
use Rattle.gate.specs.declared.load.Load.TheVariants.{Destination, Velocity, Acceleration, Mode, Power}
use Rattle.gate.specs.Gates.{with_acceleration, with_destination, with_mode, with_power, with_velocity}

-- positions and accelerations run from −2^30 to 2^30 − 1
abbrev pub is_in_signed_range : ℤ → Bool
is_in_signed_range z = int_le (neg_ℤ (pos (2 ^ 30))) z && int_lt z (pos (2 ^ 30))

-- the value is in its register's range: velocities run from 0 to 2^30 − 1, powers to 32,767, and no acceleration is 0
abbrev pub is_load_in_range : Load → Bool
is_load_in_range (Destination x) = is_in_signed_range x
is_load_in_range (Velocity x) = nat_lt x (2 ^ 30)
is_load_in_range (Acceleration x) = not (unsigned_abs x == 0) && is_in_signed_range x
is_load_in_range (Mode m) = true
is_load_in_range (Power x) = nat_le x 32767

-- the gate with that register loaded
abbrev pub with_load : Load → Gate → Gate
with_load (Destination x) g = with_destination x g
with_load (Velocity x) g = with_velocity x g
with_load (Acceleration x) g = with_acceleration x g
with_load (Mode m) g = with_mode m g
with_load (Power x) g = with_power x g
