-- Which activity of the parts goes over several of them.
use Rattle.std.specs.Prelude.{Bool, true, false}
use Rattle.device_service.specs.declared.parts.Doing.{Doing}
use Rattle.device_service.specs.declared.parts.Doing.TheVariants as doing

-- a Sleep
abbrev pub is_asleep : Doing → Bool
is_asleep (doing.Sleeping part) = true
is_asleep other = false

-- a Connect, also one that was refused
abbrev pub connects : Doing → Bool
connects (doing.Connecting part) = true
connects (doing.Undoing why) = true
connects other = false
