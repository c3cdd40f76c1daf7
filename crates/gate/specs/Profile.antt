-- The profile registers.
use Rattle.std.specs.Prelude.{pos}
use Rattle.gate.specs.declared.profile.Profile.{Profile}
use Rattle.gate.specs.declared.profile.ProfileMode.TheVariants.{Trapezoidal}

-- after a reset
abbrev pub first_profile : Profile
first_profile = record { destination = pos 0; velocity = 0; acceleration = pos 1; mode = Trapezoidal }
